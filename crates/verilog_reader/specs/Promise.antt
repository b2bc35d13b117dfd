-- What reading a source text promises.
use Rattle.std.specs.Prelude.{ℕ, ◌≤◌, List, Result, Ok, Err}
use Rattle.text_scan.specs.declared.limits.Limits.{Limits}
use Rattle.text_scan.specs.declared.refusal.FileRefusal.{FileRefusal}
use Rattle.verilog_source.specs.declared.Source.{Source}
use Rattle.verilog_reader.specs.declared.file_text.FileText.{FileText}
use Rattle.verilog_reader.specs.File.{FileAnswer, IsSource}
use Rattle.file_rules.specs.Told.{Agrees}

-- no limit is above the standard one
pub record IsWithin (limits : Limits) : Type 0 where
  pub cells : limits.cells ≤ 4096
  pub nesting : limits.nesting ≤ 32
  pub name : limits.name ≤ 128

-- the parts of a file
abbrev pub source_of : FileText → Source
source_of f = record { modules = f.modules; primitives = f.primitives }

abbrev pub told : FileAnswer → Result Source FileRefusal
told (Ok f) = Ok (source_of f)
told (Err e) = Err e

-- the grammar gives the text an answer, which is told unless memory ran out
pub record IsAnswered (source : List ℕ) (limits : Limits) (result : Result Source FileRefusal) : Type 0 where
  pub answer : FileAnswer
  pub is : IsSource source limits answer
  pub agrees : Agrees result (told answer)

-- the answer of a file, unless memory ran out
pub record IsRead (source : List ℕ) (limits : Limits) (result : Result FileText FileRefusal) : Type 0 where
  pub answer : FileAnswer
  pub is : IsSource source limits answer
  pub agrees : Agrees result answer
