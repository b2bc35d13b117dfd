use Rattle.std.proofs.Common.{◌≡◌, drop}
use Rattle.gate_settle.specs.Settled.{values_after}
use Rattle.gate_settle.proofs.settle.settle.Given as goal

abbrev pub invariant-loop-gate : goal.invariant-loop-gate
invariant-loop-gate l = values_after l.tables l.states (drop l.gate-index l.gates) l.nets ≡ values_after l.tables l.states l.gates l.fn.nets
