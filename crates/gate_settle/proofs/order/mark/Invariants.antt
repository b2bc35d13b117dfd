use Rattle.std.proofs.Common.{◌≡◌, drop}
use Rattle.gate_settle.specs.Order.{marked}
use Rattle.gate_settle.proofs.order.mark.Given as goal

abbrev pub invariant-loop-output : goal.invariant-loop-output
invariant-loop-output l = marked (drop l.output-index l.outputs) l.mark l.known ≡ marked l.outputs l.mark l.fn.known
