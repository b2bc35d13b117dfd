use Rattle.std.proofs.Common.{◌≡◌, ◌<◌, take, length, sym, ◌∙◌, ap, subst, length-take, arith}
use Rattle.switch_response.specs.NameIndex.{Adds}
use Rattle.switch_response.specs.Places.{Indexes, is_named}
use Rattle.switch_response.proofs.NameLists.{take_at, added, eq_back}
use Rattle.switch_response.proofs.building.index_of_models.Goals as goal

pub loop-place-preserved : goal.loop-place-preserved
loop-place-preserved c =
    let lt : c.loop-place.place < length c.args.models.now = omega arith in
    let place : c.loop-place.place ≡ length (take c.loop-place.place c.args.models.now) = simp length-take (omega arith) in
    subst (λ models. Indexes is_named models c.add.new.self) (sym (take_at c.args.models.now c.loop-place.place c.index-models-place.result lt c.index-models-place.is))
    (added is_named _ c.index-models-place.result c.index-models-place.result.name c.loop-place.index c.add.new.self _ _ place (λ q. eq_back q c.index-models-place.result.name) c.loop-place.invariant
    (subst (λ n. Adds c.loop-place.index c.add.new.self n c.loop-place.place c.in_ok-add.field-0) (c.as_bytes.ensures ∙ ap (λ m. m.name) (sym c.index-models-place.is)) c.in_ok-add.ensures))
