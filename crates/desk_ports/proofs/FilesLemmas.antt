use Rattle.std.proofs.Common.{◌≡◌, ◌≤◌, ◌<◌, ℕ, zero, suc, List, [], ◌∷◌, length, get_or, drop, refl, arith, String, Vec, Some, true, string_bytes, bytes_eq, map}
use Rattle.std.specs.declared.alloc.Global.{Global}
use Rattle.desk_ports.specs.Files.{file_in, files_of, bytes_at}
use Rattle.desk_ports.specs.MemShelf.{is_expected}

-- the bytes at an index are those of the file there
pub bytes_at-read : (files : List (String Global × Vec ℕ Global)) (index : ℕ) (d : String Global × Vec ℕ Global) → index < length files → bytes_at (files_of files) index ≡ (get_or files index d).1.items
bytes_at-read [] index d h = absurd (omega arith)
bytes_at-read (f ∷ files) zero d h = refl
bytes_at-read (f ∷ files) (suc index) d h = bytes_at-read files index d (omega arith)

pub bytes_at-past : (files : List (String Global × Vec ℕ Global)) (index : ℕ) → length files ≤ index → bytes_at (files_of files) index ≡ []
bytes_at-past [] index h = refl
bytes_at-past (f ∷ files) zero h = absurd (omega arith)
bytes_at-past (f ∷ files) (suc index) h = bytes_at-past files index (omega arith)

-- the first file of a name heads what the search has left
pub file_in-found : (files : List (String Global × Vec ℕ Global)) (name : List ℕ) (index : ℕ) (d : String Global × Vec ℕ Global) → index < length files → bytes_eq (string_bytes (get_or files index d).0) name ≡ true → file_in (files_of (drop index files)) name ≡ Some (bytes_at (files_of files) index)
file_in-found [] name index d h e = absurd (omega arith)
file_in-found (f ∷ files) name zero d h e = rw e refl
file_in-found (f ∷ files) name (suc index) d h e = file_in-found files name index d (omega arith) e

-- a name that is found is among those that the search has left
pub is_expected-found : (names : List (String Global)) (name : List ℕ) (index : ℕ) (d : String Global) → index < length names → bytes_eq (string_bytes (get_or names index d)) name ≡ true → is_expected (Some (map string_bytes (drop index names))) name ≡ true
is_expected-found [] name index d h e = absurd (omega arith)
is_expected-found (known ∷ names) name zero d h e = rw e refl
is_expected-found (known ∷ names) name (suc index) d h e = is_expected-found names name index d (omega arith) e

pub ruleset file_lemmas = (bytes_at-read, bytes_at-past, file_in-found, is_expected-found)
