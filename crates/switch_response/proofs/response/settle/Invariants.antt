use Rattle.std.proofs.Common.{ℕ, ◌<◌, slice_index}
use Rattle.switch_response.specs.Walks.{value_at}
use Rattle.switch_response.specs.Seeds.{IsLeft}
use Rattle.switch_response.proofs.response.settle.Given as goal

abbrev pub invariant-loop-node : goal.invariant-loop-node
invariant-loop-node l = (k : ℕ) → k < l.node → IsLeft (slice_index l.ones k) (slice_index l.zeros k) (value_at l.next k)
