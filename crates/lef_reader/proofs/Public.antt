-- The public answer is the grammar's.
use Rattle.std.proofs.Common.{◌≡◌, ℕ, List, Result, Ok, Err, sym, ap, subst, ◌∙◌}
use Rattle.text_scan.specs.declared.limits.Limits.{Limits}
use Rattle.text_scan.specs.declared.token.Style.TheVariants.{Lef}
use Rattle.text_scan.specs.Tokens.{tokens_of}
use Rattle.text_scan.specs.declared.refusal.FileRefusal.{FileRefusal}
use Rattle.text_scan.specs.declared.refusal.FileRefusal.TheVariants as refusals
use Rattle.lef_source.specs.declared.Lef.{Lef as LefData}
use Rattle.lef_reader.specs.declared.lef_text.LefText.{LefText}
use Rattle.lef_reader.specs.File.{FileAnswer, IsLefText, no_lef}
use Rattle.lef_reader.specs.Promise.{IsAnswered, IsRead, lef_of, told}
use Rattle.file_rules.specs.Told.{Agrees}
use Rattle.lef_reader.proofs.OneAnswer.{one_answer}

module _ (source : List ℕ) (limits : Limits) where
  pub made : (f : LefText) (l : LefData) → IsRead source limits (Ok f) → l ≡ lef_of f → IsAnswered source limits (Ok l)
  made f l w e = record { answer = w.answer; is = w.is; agrees = ap told w.agrees ∙ ap Ok (sym e) }

  pub kept : (e : FileRefusal) → IsRead source limits (Err e) → IsAnswered source limits (Err e)
  kept refusals.NoMemory w = record { answer = w.answer; is = w.is; agrees = tt }
  kept (refusals.Syntax line column) w = record { answer = w.answer; is = w.is; agrees = ap told w.agrees }
  kept (refusals.TooMany kind number) w = record { answer = w.answer; is = w.is; agrees = ap told w.agrees }
  kept (refusals.DoubleName name line) w = record { answer = w.answer; is = w.is; agrees = ap told w.agrees }

  pub only_one : (result : Result LefData FileRefusal) → IsAnswered source limits result → (o : FileAnswer) → IsLefText source limits o → Agrees result (told o)
  only_one result h o is =
      let same : h.answer ≡ o = one_answer source limits h.is.0 is.0 no_lef (tokens_of Lef source) h.answer o h.is.1 is.1 in
      subst (λ a. Agrees result (told a)) same h.agrees
