-- What a line is for the cards of its text, and which of its words belong to them.
use Rattle.std.specs.Prelude.{ℕ, Bool, if◌then◌else◌, List, [], ◌∷◌, length}
use Rattle.std.specs.Str.{bytes_eq}
use Rattle.std.specs.Prelude.{codes, map}
use Rattle.std.specs.Char.{to_ascii_lowercase}
use Rattle.text_scan.specs.Bytes.{begins_with, is_space}
use Rattle.cdl_cards.specs.Words.{PlacedWord, words, words_of}
use Rattle.cdl_cards.specs.declared.kinds.LineKind.{LineKind}
use Rattle.cdl_cards.specs.declared.kinds.LineKind.TheVariants as kinds

-- the same but for the case of ASCII letters
unfoldable pub is_same_word : List ℕ → List ℕ → Bool
is_same_word a b = bytes_eq (map to_ascii_lowercase a) (map to_ascii_lowercase b)

-- a comment that is a card
unfoldable pub is_pin_info : List ℕ → Bool
is_pin_info bytes = is_same_word bytes (codes "*.PININFO")

-- what the first word of a line makes of it
unfoldable pub kind_by : List ℕ → LineKind
kind_by bytes =
    if begins_with 36 bytes then kinds.Passed
    else if begins_with 43 bytes then kinds.More
    else if begins_with 42 bytes then (if is_pin_info bytes then kinds.Card else kinds.Passed)
    else kinds.Card

abbrev pub kind_of_words : List PlacedWord → LineKind
kind_of_words [] = kinds.Passed
kind_of_words (w ∷ ws) = kind_by w.bytes

-- a line of no word is passed over
abbrev pub kind_of : ℕ → List ℕ → LineKind
kind_of number line = kind_of_words (words_of number line)

-- the words before the first that begins with $
unfoldable pub shown : List PlacedWord → List PlacedWord
shown [] = []
shown (w ∷ ws) = if begins_with 36 w.bytes then [] else w ∷ shown ws

-- what follows the first byte of the first word
unfoldable pub after_first : List ℕ → List ℕ
after_first [] = []
after_first (b ∷ bs) = if is_space b then after_first bs else bs

-- the words of a line that begins a card
abbrev pub card_words : ℕ → List ℕ → List PlacedWord
card_words number line = shown (words_of number line)

-- the words of a line that goes on with one: those behind its +
abbrev pub more_words : ℕ → List ℕ → List PlacedWord
more_words number line = shown (words number (length line) 0 (after_first line))
