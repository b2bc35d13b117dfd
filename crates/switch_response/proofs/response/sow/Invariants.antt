use Rattle.std.proofs.Common.{ℕ, ◌<◌, slice_index}
use Rattle.switch_response.specs.Walks.{value_at}
use Rattle.switch_response.specs.Seeds.{IsSeed}
use Rattle.switch_response.proofs.response.sow.Given as goal

abbrev pub invariant-loop-node : goal.invariant-loop-node
invariant-loop-node l = (k : ℕ) → k < l.node → IsSeed (value_at l.values k) l.avoid (slice_index l.strengths k) (slice_index l.definite k) (slice_index l.seeds k)
