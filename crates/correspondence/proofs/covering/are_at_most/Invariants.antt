use Rattle.std.proofs.Common.{◌≡◌, ◌↔◌, length, drop}
use Rattle.tern_core.specs.Order.{AreAtMost}
use Rattle.correspondence.proofs.covering.are_at_most.Given as goal

abbrev pub invariant-loop-i : goal.invariant-loop-i
invariant-loop-i l = (length l.left ≡ length l.right) × (AreAtMost (drop l.i l.left) (drop l.i l.right) ↔ AreAtMost l.left l.right)
