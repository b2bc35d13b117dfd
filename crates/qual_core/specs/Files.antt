-- What becomes of the bytes of a file.
use Rattle.std.specs.Prelude.{◌≡◌, ◌≤◌, ◌<◌, ℕ, List, ◌++◌, [], Result, Ok, Err, codes, decimal, length, ◌∷◌}
use Rattle.text_scan.specs.declared.refusal.FileRefusal.{FileRefusal}
use Rattle.text_scan.specs.declared.refusal.FileRefusal.TheVariants.{NoMemory, Syntax, TooMany, DoubleName}
use Rattle.text_scan.specs.Limits.{standard}
use Rattle.text_scan.specs.Refusals.{refusal_words}
use Rattle.liberty_source.specs.declared.Library.{Library}
use Rattle.verilog_source.specs.declared.Source.{Source}
use Rattle.liberty_reader.specs.Promise as liberty
use Rattle.verilog_reader.specs.Promise as verilog
use Rattle.qual_core.specs.Command.{file_word}
use Rattle.qual_core.specs.declared.command.FileOption.{FileOption}
use Rattle.qual_core.specs.declared.command.FileOption.TheVariants.{Liberty, Verilog}

-- the most bytes of a file
abbrev pub MAX_FILE : ℕ
MAX_FILE = 134217728

-- what the readers answer on a text within the limits of files
abbrev pub IsLibrary : List ℕ → Result Library FileRefusal → Type 0
IsLibrary bytes result = liberty.IsAnswered bytes standard result

abbrev pub IsSource : List ℕ → Result Source FileRefusal → Type 0
IsSource bytes result = verilog.IsAnswered bytes standard result

-- ---- refused files

-- want of memory is told of no file
abbrev pub IsTold : FileRefusal → Type 0
IsTold NoMemory = ⊥
IsTold (Syntax line column) = Unit {0}
IsTold (TooMany kind number) = Unit {0}
IsTold (DoubleName name line) = Unit {0}

-- the words of a refusal, with names as they stand
abbrev pub words_of : FileRefusal → List ℕ
words_of refusal = refusal_words (λ name. name) refusal

-- the line of a file that is refused
abbrev pub refusal_line : FileOption → List ℕ → List ℕ
refusal_line file words = codes "refused " ++ file_word file ++ codes " " ++ words ++ 10 ∷ []

-- A file is refused where it is too long, or by its reader.
pub data IsRefusedFile (answers : FileRefusal → Type 0) (file : FileOption) (bytes line : List ℕ) : Type 0 where
  too_long : MAX_FILE < length bytes → line ≡ refusal_line file (codes "too long") → IsRefusedFile answers file bytes line
  refused : length bytes ≤ MAX_FILE → (e : FileRefusal) → answers e → IsTold e → line ≡ refusal_line file (words_of e) → IsRefusedFile answers file bytes line

-- the library of a file, or the line of its refusal
abbrev pub IsLibraryRead : List ℕ → Result Library (List ℕ) → Type 0
IsLibraryRead bytes (Ok library) = (length bytes ≤ MAX_FILE) × IsLibrary bytes (Ok library)
IsLibraryRead bytes (Err line) = IsRefusedFile (λ e. IsLibrary bytes (Err e)) Liberty bytes line

-- the source text of a file, or the line of its refusal
abbrev pub IsSourceRead : List ℕ → Result Source (List ℕ) → Type 0
IsSourceRead bytes (Ok source) = (length bytes ≤ MAX_FILE) × IsSource bytes (Ok source)
IsSourceRead bytes (Err line) = IsRefusedFile (λ e. IsSource bytes (Err e)) Verilog bytes line
