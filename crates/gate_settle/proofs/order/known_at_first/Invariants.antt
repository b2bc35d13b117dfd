use Rattle.std.proofs.Common.{◌≡◌, false, drop}
use Rattle.gate_settle.specs.Order.{known_after, known_at_first}
use Rattle.gate_settle.proofs.order.known_at_first.Given as goal

abbrev pub invariant-loop-gate : goal.invariant-loop-gate
invariant-loop-gate l = known_after (drop l.gate-index l.gates) false l.known.items ≡ known_at_first l.nets l.gates
