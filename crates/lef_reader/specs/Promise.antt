-- What reading a LEF text promises.
use Rattle.std.specs.Prelude.{ℕ, List, Result, Ok, Err}
use Rattle.text_scan.specs.declared.limits.Limits.{Limits}
use Rattle.text_scan.specs.declared.refusal.FileRefusal.{FileRefusal}
use Rattle.lef_source.specs.declared.Lef.{Lef}
use Rattle.lef_reader.specs.declared.lef_text.LefText.{LefText}
use Rattle.lef_reader.specs.File.{FileAnswer, IsLefText}
use Rattle.file_rules.specs.Told.{Agrees}

-- the macros of a file
abbrev pub lef_of : LefText → Lef
lef_of f = record { macros = f.macros }

abbrev pub told : FileAnswer → Result Lef FileRefusal
told (Ok f) = Ok (lef_of f)
told (Err e) = Err e

-- the grammar gives the text an answer, which is told unless memory ran out
pub record IsAnswered (source : List ℕ) (limits : Limits) (result : Result Lef FileRefusal) : Type 0 where
  pub answer : FileAnswer
  pub is : IsLefText source limits answer
  pub agrees : Agrees result (told answer)

-- the answer of a file, unless memory ran out
pub record IsRead (source : List ℕ) (limits : Limits) (result : Result LefText FileRefusal) : Type 0 where
  pub answer : FileAnswer
  pub is : IsLefText source limits answer
  pub agrees : Agrees result answer
