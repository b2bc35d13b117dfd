-- What reading a library promises.
use Rattle.std.specs.Prelude.{ℕ, ◌≤◌, List, Result}
use Rattle.text_scan.specs.declared.limits.Limits.{Limits}
use Rattle.text_scan.specs.declared.refusal.FileRefusal.{FileRefusal}
use Rattle.liberty_source.specs.declared.Library.{Library}
use Rattle.grammar.specs.Answers.{IsAnswer}
use Rattle.liberty_statements.specs.Answer.{library_file, file_tokens, told}
use Rattle.file_rules.specs.Told.{Agrees}
use Rattle.liberty_reader.specs.Cells.{library}
use Rattle.liberty_statements.specs.Does.{nothing}
use Rattle.liberty_statements.specs.ToCome.{Answer}

-- no limit is above the standard one
pub record IsWithin (limits : Limits) : Type 0 where
  pub cells : limits.cells ≤ 4096
  pub nesting : limits.nesting ≤ 32
  pub name : limits.name ≤ 128

-- the grammar gives the text an answer, which is told unless memory ran out
pub record IsAnswered (source : List ℕ) (limits : Limits) (result : Result Library FileRefusal) : Type 0 where
  pub answer : Answer
  pub is : IsAnswer (library_file source limits) nothing (file_tokens source) answer
  pub agrees : Agrees result (told source limits (library source) answer)
