use Rattle.std.proofs.Common.{◌≡◌, ℕ, ◌<◌}
use Rattle.switch_response.specs.Walks.{value_at}
use Rattle.switch_response.proofs.network.first_difference.Given as goal

abbrev pub invariant-loop-node : goal.invariant-loop-node
invariant-loop-node l = (k : ℕ) → k < l.node → value_at l.a k ≡ value_at l.b k
