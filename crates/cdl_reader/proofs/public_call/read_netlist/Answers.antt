use Rattle.std.proofs.Common.{subst, ℕ, List, Result, Ok, Err, IfOk}
use Rattle.text_scan.specs.declared.limits.Limits.{Limits}
use Rattle.text_scan.specs.declared.refusal.FileRefusal.{FileRefusal}
use Rattle.circuit.specs.declared.netlist.Netlist.{Netlist}
use Rattle.circuit.specs.Netlist.{IsNetlist}
use Rattle.grammar.specs.Answers.{read_all}
use Rattle.grammar.proofs.Answer.{answers}
use Rattle.grammar.proofs.Unique.{answer_is_read}
use Rattle.cdl_cards.specs.Cards.{cards_of}
use Rattle.cdl_reader.specs.Grammar.{netlist, nothing}
use Rattle.cdl_reader.specs.Told.{IsAnswered, told}
use Rattle.cdl_reader.proofs.Lawful.{lawful}
use Rattle.file_rules.specs.Told.{Agrees}
use Rattle.cdl_reader.proofs.Simple.{netlist_simple}
use Rattle.cdl_reader.proofs.public_call.read_netlist.Goals as goal

pub returns-clause-answered : goal.returns-clause-answered
returns-clause-answered c = record {
  answer = read_all (netlist c.args.limits.now) nothing (cards_of c.args.text.now);
  is = answers (netlist c.args.limits.now) (netlist_simple c.args.limits.now) nothing (cards_of c.args.text.now);
  agrees = c.read_cards.ensures;
}

pub returns-clause-only : goal.returns-clause-only
returns-clause-only c = λ o is.
    subst (λ a. Agrees c.read_cards.result (told c.args.text.now a)) (answer_is_read (netlist c.args.limits.now) (netlist_simple c.args.limits.now) nothing (cards_of c.args.text.now) o is) c.read_cards.ensures

answered_well : (limits : Limits) (text : List ℕ) (r : Result Netlist FileRefusal) → IsAnswered text limits r → IfOk r (λ n. IsNetlist limits n)
answered_well limits text (Ok n) h = lawful limits text n h
answered_well limits text (Err e) h = tt

pub returns-clause-kept : goal.returns-clause-kept
returns-clause-kept c = answered_well c.args.limits.now c.args.text.now c.read_cards.result (record {
  answer = read_all (netlist c.args.limits.now) nothing (cards_of c.args.text.now);
  is = answers (netlist c.args.limits.now) (netlist_simple c.args.limits.now) nothing (cards_of c.args.text.now);
  agrees = c.read_cards.ensures;
})
