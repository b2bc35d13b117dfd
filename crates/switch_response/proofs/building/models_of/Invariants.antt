use Rattle.std.proofs.Common.{◌≡◌, take, length, None}
use Rattle.std.specs.Prelude.{find, is_none}
use Rattle.switch_response.specs.Wiring.{model_of}
use Rattle.switch_response.specs.Places.{AreModels}
use Rattle.switch_response.proofs.building.models_of.Given as goal

abbrev pub invariant-loop-card : goal.invariant-loop-card
invariant-loop-card l = record {
  models : AreModels l.models l.cards l.places.items;
  count : length l.places.items ≡ l.card-index;
  known : find (λ c. is_none (model_of l.models c.model)) (take l.card-index l.cards) ≡ None;
}
