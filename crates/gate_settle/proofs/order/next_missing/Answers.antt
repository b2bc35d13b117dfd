use Rattle.gate_settle.specs.declared.gate.Operand.TheVariants.{Net}
use Rattle.gate_settle.proofs.Waiting.{take_known, input_at}
use Rattle.gate_settle.proofs.order.next_missing.Goals as goal

pub returns-in-Some : goal.returns-in-Some
returns-in-Some c = record {
  before = c.loop-input.invariant;
  input = input_at c.args.inputs.now c.loop-input.input c.in-Some.net (Net 0) c.loop-input-test.true c.in-Some.ensures.0;
  unknown = c.in-Some.ensures.1;
  within = c.in-Some.ensures.2;
}

pub loop-input-preserved : goal.loop-input-preserved
loop-input-preserved c = take_known c.args.known.now c.args.inputs.now c.loop-input.input (Net 0) c.loop-input-test.true c.loop-input.invariant c.in_default.ensures
