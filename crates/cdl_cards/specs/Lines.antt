-- The lines of a text.
use Rattle.std.specs.Prelude.{ℕ, suc, ◌+◌, ◌==◌, if◌then◌else◌, min, List, [], ◌∷◌, drop}
use Rattle.text_scan.specs.Bytes.{until, begins_with}

-- a byte more at the front of the first line
abbrev pub grown : ℕ → List (List ℕ) → List (List ℕ)
grown b [] = (b ∷ []) ∷ []
grown b (line ∷ rest) = (b ∷ line) ∷ rest

-- the lines of the text, each without the LF that ends it; the last one may end with the text, and no line begins there
unfoldable pub lines : List ℕ → List (List ℕ)
lines [] = []
lines (b ∷ bs) = if b == 10 then [] ∷ lines bs else grown b (lines bs)

-- the number of the line after this one, as it is told
abbrev pub next_line : ℕ → ℕ
next_line number = min (number + 1) 4294967295

-- what follows the first line and its LF
abbrev pub after_line : List ℕ → List ℕ
after_line text = drop (suc (until (begins_with 10) text)) text
