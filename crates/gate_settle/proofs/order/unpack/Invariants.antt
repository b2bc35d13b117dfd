use Rattle.std.proofs.Common.{◌≡◌, ◌+◌, ℕ, length}
use Rattle.std.specs.Prelude.{sum_by}
use Rattle.gate_settle.specs.declared.gate.Gate.{Gate}
use Rattle.gate_settle.specs.Waiting.{gates_in}
use Rattle.gate_settle.proofs.order.unpack.Given as goal

abbrev pub invariant-loop-waiter : goal.invariant-loop-waiter
invariant-loop-waiter l = (f : Gate → ℕ) → sum_by f l.gates.items + gates_in f l.row.items ≡ sum_by f l.fn.gates.items + gates_in f l.fn.row.items

abbrev pub decreases-loop-waiter : goal.decreases-loop-waiter
decreases-loop-waiter l = length l.row.items
