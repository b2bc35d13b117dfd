-- What the lines of a report say of cells.
use Rattle.std.specs.Prelude.{ℕ, ◌==◌, if◌then◌else◌, List, [], ◌∷◌, ◌++◌, Option, Some, None, codes}
use Rattle.std.specs.Option.{option_or}

-- a byte goes before the first line; an unfinished line is none
abbrev pub begin_line : ℕ → List (List ℕ) → List (List ℕ)
begin_line b [] = []
begin_line b (l ∷ ls) = (b ∷ l) ∷ ls

-- the lines of a text that LF ends, without it
unfoldable pub lines_of : List ℕ → List (List ℕ)
lines_of [] = []
lines_of (b ∷ bs) = if b == 10 then [] ∷ lines_of bs else begin_line b (lines_of bs)

-- what a line says behind its front, None where it begins otherwise
abbrev pub behind : List ℕ → List ℕ → Option (List ℕ)
behind [] line = Some line
behind (b ∷ front) [] = None
behind (b ∷ front) (c ∷ line) = if b == c then behind front line else None

-- what the first line that begins so says behind its front
unfoldable pub first_behind : List ℕ → List (List ℕ) → Option (List ℕ)
first_behind front [] = None
first_behind front (l ∷ ls) = option_or (behind front l) (first_behind front ls)

-- a cell's name and the verdict of the first line behind it that begins with `verdict `
pub record SaidCell : Type 0 where
  pub name : List ℕ
  pub verdict : Option (List ℕ)

abbrev pub said_by : Option (List ℕ) → List (List ℕ) → List SaidCell
said_by None ls = []
said_by (Some name) ls = record { name = name; verdict = first_behind (codes "verdict ") ls } ∷ []

-- the cells that lines with this front name, in the order of the lines
unfoldable pub cells_said : List ℕ → List (List ℕ) → List SaidCell
cells_said front [] = []
cells_said front (l ∷ ls) = said_by (behind front l) ls ++ cells_said front ls
