-- What a reader of cards has before it.
use Rattle.std.specs.Prelude.{◌≡◌, ◌<◌, ℕ, true, List, [], ◌∷◌, ◌++◌, length}
use Rattle.text_scan.specs.Bytes.{begins_with}
use Rattle.cdl_cards.specs.Lines.{lines, next_line}
use Rattle.cdl_cards.specs.Words.{PlacedWord, words}
use Rattle.cdl_cards.specs.Kinds.{shown}
use Rattle.cdl_cards.specs.Cards.{Card, cards, going_on, stray}
use Rattle.cdl_cards.specs.declared.line.Line.{Line}
use Rattle.cdl_cards.specs.declared.line.Word.{Word}
use Rattle.cdl_cards.specs.declared.line.Lines.{Lines}
use Rattle.cdl_cards.specs.declared.cards.Cards.{Cards}

abbrev pub word_of : Word → PlacedWord
word_of w = record { bytes = w.bytes.now; line = w.line; column = w.column }

-- the words that are left of a line
abbrev pub words_left : Line → List PlacedWord
words_left line = words line.number line.size 0 line.rest.now

-- the lines that are left
abbrev pub lines_left : Lines → List (List ℕ)
lines_left l = lines l.text.now

-- a line was taken from the front of these
pub record Took (old new : Lines) (line : Line) : Type 0 where
  pub lines : lines_left old ≡ line.rest.now ∷ lines_left new
  pub number : line.number ≡ old.number
  pub size : line.size ≡ length line.rest.now
  pub next : new.number ≡ next_line old.number
  pub shorter : length new.text.now < length old.text.now

-- the words by which they go on with the card before them
abbrev pub going_left : Lines → List PlacedWord
going_left l = going_on l.number (lines_left l)

-- the cards that begin in them
abbrev pub begun_left : Lines → List Card
begun_left l = cards l.number (lines_left l)

abbrev pub stray_left : Lines → List Card
stray_left l = stray l.number (lines_left l)

-- the words that are left of the card that was begun last
unfoldable pub card_left : Cards → List PlacedWord
card_left c = shown (words_left c.line) ++ going_left c.lines

-- the cards after it
unfoldable pub cards_left : Cards → List Card
cards_left c = begun_left c.lines

-- this word begins with + and is the first of the one card
pub record IsStray (w : Word) (cards : List Card) : Type 0 where
  pub plus : begins_with 43 w.bytes.now ≡ true
  pub more : List PlacedWord
  pub is : cards ≡ (word_of w ∷ more) ∷ []
