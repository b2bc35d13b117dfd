use Rattle.std.proofs.Common.{◌≡◌, ◌≤◌, ◌<◌, ◌+◌, length}
use Rattle.std.specs.Prelude.{All}
use Rattle.switch_response.specs.Spread.{ground, Steps, room}
use Rattle.switch_response.specs.Relaxing.{AreCovered}
use Rattle.switch_response.proofs.relax.spread.Given as goal

abbrev pub invariant-nodes : goal.invariant-nodes
invariant-nodes l = record {
  steps : Steps (ground l.wiring.transistors l.wiring.storage l.values l.definite l.floor) l.fn.best l.best;
  bounded : All (λ b. b ≤ 8) l.best;
  within : All (λ a. a < length l.best) l.waiting.items;
  covered : AreCovered (ground l.wiring.transistors l.wiring.storage l.values l.definite l.floor) l.best l.waiting.items;
  fits : length l.waiting.items + room l.best ≤ l.waiting.capacity;
  capacity : l.waiting.capacity ≡ l.fn.waiting.capacity;
}

abbrev pub decreases-nodes : goal.decreases-nodes
decreases-nodes l = length l.waiting.items + room l.best
