use Rattle.std.proofs.Common.{subst, ℕ, List, Result, Ok, Err, IfOk}
use Rattle.text_scan.specs.declared.limits.Limits.{Limits}
use Rattle.text_scan.specs.declared.refusal.FileRefusal.{FileRefusal}
use Rattle.grammar.specs.Answers.{read_all}
use Rattle.grammar.proofs.Answer.{answers}
use Rattle.grammar.proofs.Unique.{answer_is_read}
use Rattle.file_rules.specs.Told.{Agrees}
use Rattle.table_source.specs.Tables.{IsTables}
use Rattle.table_source.specs.declared.Tables.{Tables}
use Rattle.correspondence.specs.Grammar.{IsAnswered, tables, told}
use Rattle.correspondence.specs.Lines.{lines_of}
use Rattle.correspondence.specs.Parts.{nothing}
use Rattle.correspondence.proofs.Lawful.{lawful}
use Rattle.correspondence.proofs.Simple.{tables_simple}
use Rattle.correspondence.proofs.public_call.read_tables.Goals as goal

pub returns-clause-answered : goal.returns-clause-answered
returns-clause-answered c = record {
  answer = read_all (tables c.args.limits.now) nothing (lines_of c.args.text.now);
  is = answers (tables c.args.limits.now) (tables_simple c.args.limits.now) nothing (lines_of c.args.text.now);
  agrees = c.read_lines.ensures;
}

pub returns-clause-only : goal.returns-clause-only
returns-clause-only c = λ o is.
    subst (λ a. Agrees c.read_lines.result (told c.args.text.now a))
    (answer_is_read (tables c.args.limits.now) (tables_simple c.args.limits.now) nothing (lines_of c.args.text.now) o is)
    c.read_lines.ensures

answered_well : (limits : Limits) (text : List ℕ) (r : Result Tables FileRefusal) → IsAnswered text limits r
    → IfOk r (λ n. IsTables limits n)
answered_well limits text (Ok n) h = lawful limits text n h
answered_well limits text (Err e) h = tt

pub returns-clause-kept : goal.returns-clause-kept
returns-clause-kept c = answered_well c.args.limits.now c.args.text.now c.read_lines.result (record {
  answer = read_all (tables c.args.limits.now) nothing (lines_of c.args.text.now);
  is = answers (tables c.args.limits.now) (tables_simple c.args.limits.now) nothing (lines_of c.args.text.now);
  agrees = c.read_lines.ensures;
})
