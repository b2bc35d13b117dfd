-- What is read is the one answer that the grammar gives.
use Rattle.std.proofs.Common.{◌≡◌, ℕ, List, Result, Ok, Err, sym, ap, subst, ◌∙◌}
use Rattle.text_scan.specs.declared.limits.Limits.{Limits}
use Rattle.text_scan.specs.declared.refusal.FileRefusal.{FileRefusal}
use Rattle.text_scan.specs.declared.refusal.FileRefusal.TheVariants as refusals
use Rattle.verilog_source.specs.declared.Source.{Source}
use Rattle.verilog_directives.specs.Left.{left_of}
use Rattle.verilog_reader.specs.declared.file_text.FileText.{FileText}
use Rattle.verilog_reader.specs.FileActions.{no_file}
use Rattle.verilog_reader.specs.File.{FileAnswer, IsSource}
use Rattle.file_rules.specs.Told.{Agrees}
use Rattle.verilog_reader.specs.Promise.{source_of, told, IsAnswered, IsRead}
use Rattle.verilog_reader.proofs.Files.{one_answer}
use Rattle.verilog_reader.proofs.Whole.{n}

module _ (source : List ℕ) (limits : Limits) where
  pub made : (f : FileText) (s : Source) → IsRead source limits (Ok f) → s ≡ source_of f → IsAnswered source limits (Ok s)
  made f s w e = record { answer = w.answer; is = w.is; agrees = ap told w.agrees ∙ ap Ok (sym e) }

  pub kept : (e : FileRefusal) → IsRead source limits (Err e) → IsAnswered source limits (Err e)
  kept refusals.NoMemory w = record { answer = w.answer; is = w.is; agrees = tt }
  kept (refusals.Syntax line column) w = record { answer = w.answer; is = w.is; agrees = ap told w.agrees }
  kept (refusals.TooMany kind number) w = record { answer = w.answer; is = w.is; agrees = ap told w.agrees }
  kept (refusals.DoubleName name line) w = record { answer = w.answer; is = w.is; agrees = ap told w.agrees }

  one_source : (r q : FileAnswer) → IsSource source limits r → IsSource source limits q → r ≡ q
  one_source r q a b = one_answer source limits (n source limits) a.0 b.0 no_file (left_of source limits) r q a.1 b.1

  pub only_one : (result : Result Source FileRefusal) → IsAnswered source limits result → (o : FileAnswer) → IsSource source limits o → Agrees result (told o)
  only_one result w o is = subst (λ z. Agrees result (told z)) (one_source w.answer o w.is is) w.agrees
