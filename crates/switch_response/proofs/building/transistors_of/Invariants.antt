use Rattle.std.proofs.Common.{◌≡◌, ◌++◌, ℕ, List, take, length}
use Rattle.switch_response.specs.Wiring.{AllStandFor}
use Rattle.switch_response.specs.Places.{AreAllEnds}
use Rattle.switch_response.proofs.building.transistors_of.Given as goal

abbrev pub invariant-loop-place : goal.invariant-loop-place
invariant-loop-place l =
    (names before : List (List ℕ)) → length names ≡ l.storage → AreAllEnds names before l.cards l.ends → AllStandFor l.models (names ++ before) (take l.place l.cards) l.transistors.items
