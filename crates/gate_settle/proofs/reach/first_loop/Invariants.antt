use Rattle.std.proofs.Common.{ℕ, ◌<◌}
use Rattle.gate_settle.specs.Order.{DependsOn}
use Rattle.gate_settle.proofs.reach.first_loop.Given as goal

abbrev pub invariant-loop-net : goal.invariant-loop-net
invariant-loop-net l = (k : ℕ) → k < l.net → DependsOn l.gates k k → ⊥
