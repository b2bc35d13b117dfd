use Rattle.std.proofs.Common.{◌≡◌, ◌+◌, ℕ, length}
use Rattle.std.specs.Prelude.{sum_by}
use Rattle.gate_settle.specs.declared.gate.Gate.{Gate}
use Rattle.gate_settle.proofs.connecting.together.Given as goal

abbrev pub invariant-loop-gate : goal.invariant-loop-gate
invariant-loop-gate l = (f : Gate → ℕ) → sum_by f l.all.items + sum_by f l.waiting.items ≡ sum_by f l.fn.arranged.sorted.items + sum_by f l.fn.arranged.waiting.items

abbrev pub decreases-loop-gate : goal.decreases-loop-gate
decreases-loop-gate l = length l.waiting.items
