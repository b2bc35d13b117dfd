-- The words of a line.
use Rattle.std.specs.Prelude.{ℕ, zero, suc, ◌+◌, ◌-◌, if◌then◌else◌, min, List, [], ◌∷◌, length, take}
use Rattle.text_scan.specs.Bytes.{is_space, until}
use Rattle.text_scan.specs.Pieces.{begins_space, ends_run}

-- a word: its bytes, and the line and the column of the first one, both from 1
pub record PlacedWord : Type 0 where
  pub bytes : List ℕ
  pub line : ℕ
  pub column : ℕ

-- how many blanks stand before the first word
abbrev pub blanks : List ℕ → ℕ
blanks bs = until (ends_run is_space) bs

-- the column of the first of the bytes that are left of so many, as it is told
abbrev pub column_of : ℕ → ℕ → ℕ
column_of size left = min (size - left + 1) 4294967295

-- the word of the first n of the bytes that are left
abbrev pub word_at : ℕ → ℕ → List ℕ → ℕ → PlacedWord
word_at number size bs n = record { bytes = take n bs; line = number; column = column_of size (length bs) }

-- The words of the bytes that are left of a line of this number and size, the first so many of which belong to the word
-- before. A word is a longest run of bytes other than blank, tab and CR.
unfoldable pub words : ℕ → ℕ → ℕ → List ℕ → List PlacedWord
words number size inside [] = []
words number size (suc inside) (b ∷ bs) = words number size inside bs
words number size zero (b ∷ bs) =
    if is_space b then words number size 0 bs
    else word_at number size (b ∷ bs) (suc (until begins_space bs)) ∷ words number size (until begins_space bs) bs

-- the words of a line
abbrev pub words_of : ℕ → List ℕ → List PlacedWord
words_of number line = words number (length line) 0 line
