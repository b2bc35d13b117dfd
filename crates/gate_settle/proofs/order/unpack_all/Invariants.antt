use Rattle.std.proofs.Common.{◌≡◌, ◌+◌, ℕ, map, length}
use Rattle.std.specs.Prelude.{sum_by}
use Rattle.gate_settle.specs.declared.gate.Gate.{Gate}
use Rattle.gate_settle.specs.Waiting.{gates_within}
use Rattle.gate_settle.proofs.order.unpack_all.Given as goal

abbrev pub invariant-loop-row : goal.invariant-loop-row
invariant-loop-row l = (f : Gate → ℕ) → sum_by f l.gates.items + gates_within f (map (λ v. v.items) l.rows.items) ≡ gates_within f (map (λ v. v.items) l.fn.rows.items)

abbrev pub decreases-loop-row : goal.decreases-loop-row
decreases-loop-row l = length l.rows.items
