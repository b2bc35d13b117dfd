use Rattle.std.proofs.Common.{◌+◌, ◌*◌, ◌-◌, length, map}
use Rattle.gate_settle.proofs.Waiting.{IsSorting}
use Rattle.gate_settle.proofs.order.arrange.Given as goal

abbrev pub invariant-loop-waiter : goal.invariant-loop-waiter
invariant-loop-waiter l = IsSorting l.nets l.fn.gates.items l.sorted.items l.known.items l.fresh.items (map (λ v. v.items) l.rows.items)

abbrev pub decreases-loop-waiter : goal.decreases-loop-waiter
decreases-loop-waiter l = (length l.fn.gates.items - length l.sorted.items) * (length l.fn.gates.items + 1) + length l.fresh.items
