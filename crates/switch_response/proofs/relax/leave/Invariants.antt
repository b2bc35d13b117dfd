use Rattle.std.proofs.Common.{◌≡◌, ◌<◌, ℕ, slice_index, slice_index_or}
use Rattle.switch_response.specs.declared.wiring.Arc.{Arc}
use Rattle.switch_response.specs.Spread.{ground}
use Rattle.switch_response.specs.Relaxing.{IsGrown, IsIdleAlong}
use Rattle.switch_response.proofs.relax.leave.Given as goal

abbrev pub invariant-loop-arc : goal.invariant-loop-arc
invariant-loop-arc l = record {
  grown : IsGrown (ground l.wiring.transistors l.wiring.storage l.values l.definite l.floor) l.fn.best l.best l.fn.waiting.items l.waiting.items;
  own : slice_index l.best l.node ≡ l.strength;
  idle : (k : ℕ) (d : Arc) → k < l.arc-index → IsIdleAlong (ground l.wiring.transistors l.wiring.storage l.values l.definite l.floor) l.best l.strength (slice_index_or l.arc-items k d);
  capacity : l.waiting.capacity ≡ l.fn.waiting.capacity;
}
