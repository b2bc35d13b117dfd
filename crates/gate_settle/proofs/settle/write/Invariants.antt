use Rattle.std.proofs.Common.{◌≡◌, drop}
use Rattle.gate_settle.specs.Settled.{written}
use Rattle.gate_settle.proofs.settle.write.Given as goal

abbrev pub invariant-loop-output : goal.invariant-loop-output
invariant-loop-output l = written (drop l.output-index l.outputs) l.value l.nets ≡ written l.outputs l.value l.fn.nets
