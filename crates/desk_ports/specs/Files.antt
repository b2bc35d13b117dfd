use Rattle.std.specs.Prelude.{ℕ, zero, suc, List, [], ◌∷◌, map, String, Vec, string_bytes, if◌then◌else◌, bytes_eq, Option, Some, None}
use Rattle.std.specs.declared.alloc.Global.{Global}

-- the names and the bytes of files
abbrev pub files_of : List (String Global × Vec ℕ Global) → List (List ℕ × List ℕ)
files_of files = map (λ f. (string_bytes f.0, f.1.items)) files

-- the bytes of the first file of a name
abbrev pub file_in : List (List ℕ × List ℕ) → List ℕ → Option (List ℕ)
file_in [] name = None
file_in (f ∷ files) name = if bytes_eq f.0 name then Some f.1 else file_in files name

-- the bytes of the file at an index, none where there is no such file
abbrev pub bytes_at : List (List ℕ × List ℕ) → ℕ → List ℕ
bytes_at [] index = []
bytes_at (f ∷ files) zero = f.1
bytes_at (f ∷ files) (suc index) = bytes_at files index
