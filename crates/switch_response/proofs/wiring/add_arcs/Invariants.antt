use Rattle.std.proofs.Common.{◌<◌, ℕ, [], map, take, length, slice_index_or}
use Rattle.switch_response.specs.Arcs.{AreArcsAt}
use Rattle.switch_response.proofs.wiring.add_arcs.Given as goal

abbrev pub invariant-loop-t : goal.invariant-loop-t
invariant-loop-t l = (node : ℕ) → node < length l.fn.arcs → AreArcsAt (take l.t-index l.transistors) l.storage node (slice_index_or (map (λ v. v.items) l.arcs) node [])
