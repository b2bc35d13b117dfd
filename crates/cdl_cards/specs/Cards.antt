-- The cards of a text.
use Rattle.std.specs.Prelude.{ℕ, List, [], ◌∷◌, ◌++◌}
use Rattle.cdl_cards.specs.Lines.{lines, next_line}
use Rattle.cdl_cards.specs.Words.{PlacedWord}
use Rattle.cdl_cards.specs.Kinds.{kind_of, card_words, more_words}
use Rattle.cdl_cards.specs.declared.kinds.LineKind.{LineKind}
use Rattle.cdl_cards.specs.declared.kinds.LineKind.TheVariants as kinds

-- a card is the list of its words
abbrev pub Card : Type 0
Card = List PlacedWord

abbrev pub going_on_by : LineKind → List PlacedWord → List PlacedWord → List PlacedWord
going_on_by kinds.Passed here rest = rest
going_on_by kinds.More here rest = here ++ rest
going_on_by kinds.Card here rest = []

-- the words by which these lines, the first of this number, go on with the card before them
unfoldable pub going_on : ℕ → List (List ℕ) → List PlacedWord
going_on number [] = []
going_on number (line ∷ rest) = going_on_by (kind_of number line) (more_words number line) (going_on (next_line number) rest)

abbrev pub with_card : LineKind → Card → List Card → List Card
with_card kinds.Passed card rest = rest
with_card kinds.More card rest = rest
with_card kinds.Card card rest = card ∷ rest

-- the cards that begin in these lines
unfoldable pub cards : ℕ → List (List ℕ) → List Card
cards number [] = []
cards number (line ∷ rest) =
    with_card (kind_of number line) (card_words number line ++ going_on (next_line number) rest) (cards (next_line number) rest)

abbrev pub stray_by : LineKind → Card → List Card → List Card
stray_by kinds.Passed card rest = rest
stray_by kinds.More card rest = card ∷ []
stray_by kinds.Card card rest = []

-- a + line that no card stands before: it is a card of its own
unfoldable pub stray : ℕ → List (List ℕ) → List Card
stray number [] = []
stray number (line ∷ rest) = stray_by (kind_of number line) (card_words number line) (stray (next_line number) rest)

-- the cards of a text
unfoldable pub cards_of : List ℕ → List Card
cards_of text = stray 1 (lines text) ++ cards 1 (lines text)
