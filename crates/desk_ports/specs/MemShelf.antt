use Rattle.std.specs.Prelude.{ℕ, Bool, true, List, bytes_eq, Option, Some, None}
use Rattle.std.specs.List.{list_any}
use Rattle.desk_ports.specs.declared.asked.Asked.{Asked}
use Rattle.desk_ports.specs.Asked.{nothing_asked}

-- what contracts see of a memory shelf
pub record ShelfState : Type 0 where
  -- the name and the bytes of each file
  pub files : List (List ℕ × List ℕ)
  -- the numbers of the calls that are told to fail
  pub fails : List ℕ
  -- the names that are expected, None where all are
  pub expected : Option (List (List ℕ))
  -- the bytes left of the started file, None where no file is started
  pub left : Option (List ℕ)
  pub asked : Asked
  pub faults : ℕ

-- a new shelf of these files, whose calls with these numbers are told to fail
abbrev pub new_shelf : List (List ℕ × List ℕ) → List ℕ → ShelfState
new_shelf files fails = record {
  files = files;
  fails = fails;
  expected = None;
  left = None;
  asked = nothing_asked;
  faults = 0;
}

-- whether a name is expected
abbrev pub is_expected : Option (List (List ℕ)) → List ℕ → Bool
is_expected None name = true
is_expected (Some names) name = list_any (λ known. bytes_eq known name) names
