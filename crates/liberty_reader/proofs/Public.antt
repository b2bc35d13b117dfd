-- What is read is the one answer that the grammar gives.
use Rattle.std.proofs.Common.{◌≡◌, ℕ, false, List, Result, Ok, Err, sym, ap, subst, ◌∙◌}
use Rattle.text_scan.specs.declared.limits.Limits.{Limits}
use Rattle.text_scan.specs.declared.refusal.FileRefusal.{FileRefusal}
use Rattle.text_scan.specs.declared.refusal.FileRefusal.TheVariants as refusals
use Rattle.liberty_source.specs.declared.Library.{Library}
use Rattle.grammar.specs.Reading.{syntax, refusal, IsSimple}
use Rattle.grammar.specs.Answers.{read_all, IsAnswer}
use Rattle.grammar.proofs.Answer.{answers}
use Rattle.grammar.proofs.Unique.{answer_is_read}
use Rattle.liberty_statements.specs.declared.statements.Statements.{Statements}
use Rattle.liberty_statements.specs.Answer.{library_file, file_tokens, told, same}
use Rattle.file_rules.specs.Told.{Agrees}
use Rattle.liberty_reader.specs.Cells.{library}
use Rattle.liberty_statements.specs.Does.{nothing}
use Rattle.liberty_reader.specs.Promise.{IsAnswered}
use Rattle.liberty_statements.specs.ToCome.{Answer}
use Rattle.liberty_statements.proofs.Simple.{file_simple}
use Rattle.liberty_statements.proofs.KeepingSteps.{statements_kept}
use Rattle.liberty_source.specs.Library.{IsLibrary}
use Rattle.liberty_reader.proofs.Lawful.{lawful}

module _ (source : List ℕ) (limits : Limits) where
  abbrev pub whole_answer : Answer
  whole_answer = read_all (library_file source limits) nothing (file_tokens source)

  pub simple : IsSimple (library_file source limits) (λ t. false)
  unfolding library_file
  simple = file_simple source limits limits.nesting

  told_ok : (a : Answer) (s : Statements) → told source limits same a ≡ Ok s → told source limits (library source) a ≡ Ok (library source s)
  told_ok (Ok t) s e = let g : t ≡ s = cc in ap (λ z. Ok (library source z)) g
  told_ok (Err (syntax rest)) s e = absurd cc
  told_ok (Err (refusal r rest)) s e = absurd cc

  told_err : (a : Answer) (e : FileRefusal) → told source limits same a ≡ Err e → told source limits (library source) a ≡ Err e
  told_err (Ok t) e h = absurd cc
  told_err (Err (syntax rest)) e h = let g : told source limits same (Err (syntax rest)) ≡ Err e = h in ap (λ z. Err z) cc
  told_err (Err (refusal r rest)) e h = ap (λ z. Err z) cc

  pub kept : (e : FileRefusal) → Agrees (Err e) (told source limits same whole_answer) → Agrees (Err e) (told source limits (library source) whole_answer)
  kept refusals.NoMemory h = tt
  kept (refusals.Syntax line column) h = told_err whole_answer _ h
  kept (refusals.TooMany kind number) h = told_err whole_answer _ h
  kept (refusals.DoubleName name line) h = told_err whole_answer _ h

  pub made : (s : Statements) (l : Library) → told source limits same whole_answer ≡ Ok s → l ≡ library source s → told source limits (library source) whole_answer ≡ Ok l
  made s l h e = told_ok whole_answer s h ∙ ap Ok (sym e)

  pub answered : (result : Result Library FileRefusal) → Agrees result (told source limits (library source) whole_answer) → IsAnswered source limits result
  answered result h = record { answer = whole_answer; is = answers (library_file source limits) simple nothing (file_tokens source); agrees = h }

  pub only_one : (result : Result Library FileRefusal) → Agrees result (told source limits (library source) whole_answer)
      → (o : Answer) → IsAnswer (library_file source limits) nothing (file_tokens source) o → Agrees result (told source limits (library source) o)
  only_one result h o is = let P : Answer → Type 0 = λ a. Agrees result (told source limits (library source) a) in subst P (answer_is_read (library_file source limits) simple nothing (file_tokens source) o is) h

  was_read : (a : Answer) (s : Statements) → told source limits same a ≡ Ok s → a ≡ Ok s
  was_read (Ok t) s e = let same : t ≡ s = cc e in ap Ok same
  was_read (Err (syntax rest)) s e = absurd cc
  was_read (Err (refusal r rest)) s e = absurd cc

  pub lawful_of : (s : Statements) (l : Library) → told source limits same whole_answer ≡ Ok s → l ≡ library source s → IsLibrary limits l
  lawful_of s l h e = subst (IsLibrary limits) (sym e) (lawful source limits s (statements_kept source limits s (was_read whole_answer s h)))

  -- what is told of the answer that the grammar gives
  told_well : (a : Answer) (l : Library) → whole_answer ≡ a → told source limits (library source) a ≡ Ok l → IsLibrary limits l
  told_well (Ok s) l w e = let same : library source s ≡ l = cc e in subst (IsLibrary limits) same (lawful source limits s (statements_kept source limits s w))
  told_well (Err (syntax rest)) l w e = absurd cc
  told_well (Err (refusal r rest)) l w e = absurd cc

-- A library that is answered has names, directed pins, words that can be shown, and no name twice.
pub library_kept : (text : List ℕ) (limits : Limits) (l : Library) → IsAnswered text limits (Ok l) → IsLibrary limits l
library_kept text limits l h =
    told_well text limits h.answer l (answer_is_read (library_file text limits) (simple text limits) nothing (file_tokens text) h.answer h.is) h.agrees
