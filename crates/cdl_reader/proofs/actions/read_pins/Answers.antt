use Rattle.std.proofs.Common.{sym, ◌∙◌, ap}
use Rattle.cdl_cards.specs.Left.{word_of}
use Rattle.cdl_reader.specs.Actions.{word_bytes}
use Rattle.cdl_reader.proofs.NextNames.{fault_here, no_fault_here, no_faults, pins_kept, pins_all}
use Rattle.cdl_reader.proofs.actions.read_pins.Goals as goal

pub returns-in-Err-clause-pins : goal.returns-in-Err-clause-pins
returns-in-Err-clause-pins c =
    fault_here c.args.limits.now c.in-Err.fault _ _ _ (word_of c.in-Some.word) c.pins.invariant.faults c.in-Some.ensures.operand c.in-Err.ensures

pub pins-preserved : goal.pins-preserved
pins-preserved c = record {
  faults = no_fault_here c.args.limits.now _ _ (word_of c.in-Some.word) c.in-Some.ensures.operand c.in-Ok.ensures.1 ∙ c.pins.invariant.faults;
  pins =
      pins_kept c.pins.pins c.push.new.self c.in_ok-from_bytes-in-Ok.field-0 _ _ (word_of c.in-Some.word) c.in_ok-push-in-Ok.ensures.ok
      (c.in_ok-from_bytes-in-Ok.ensures ∙ ap word_bytes c.in-Ok.ensures.0) c.in-Some.ensures.operand
      ∙ c.pins.invariant.pins;
  cards = c.in-Some.ensures.cards ∙ c.pins.invariant.cards;
}

pub returns-clause-pins : goal.returns-clause-pins
returns-clause-pins c = (sym c.pins.invariant.faults ∙ no_faults c.args.limits.now _ c.in_default.ensures.operand, pins_all c.pins.pins _ _ c.in_default.ensures.operand c.pins.invariant.pins)
