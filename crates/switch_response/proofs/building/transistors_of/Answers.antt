use Rattle.std.proofs.Common.{◌≡◌, ◌<◌, ◌++◌, ℕ, [], ◌∷◌, take, length, get_or, slice_index_or, sym, subst, arith}
use Rattle.std.proofs.lemmas.Option.{slice_get-get_or, get_or_from_slice_get}
use Rattle.circuit.specs.declared.netlist.Transistor.{Transistor as Card}
use Rattle.switch_response.specs.Wiring.{AllStandFor}
use Rattle.switch_response.specs.Places.{IsModelAt}
use Rattle.switch_response.proofs.NameLists.{get_within, take_at}
use Rattle.switch_response.proofs.CardModels.{stands_for, all_stand_push}
use Rattle.switch_response.proofs.building.transistors_of.Goals as goal

pub transistor_of-requires-clause-place : goal.transistor_of-requires-clause-place
transistor_of-requires-clause-place c =
    let lt : c.loop-place.place < length c.args.cards.now = omega arith in
    let card = get_within c.args.cards.now c.loop-place.place lt in
    (c.requires.models c.loop-place.place card.0 _ card.1 (slice_get-get_or c.args.places.now c.loop-place.place 0 (omega (arith, c.requires.places)))).within

pub loop-place-preserved : goal.loop-place-preserved
loop-place-preserved c names before e ends =
    let k : ℕ = c.loop-place.place in
    let lt : k < length c.args.cards.now = omega arith in
    let at = get_within c.args.cards.now k lt in
    let card : Card = at.0 in
    let is : card ≡ get_or c.args.cards.now k card = sym (get_or_from_slice_get c.args.cards.now k card card at.1) in
    let place : ℕ = slice_index_or c.args.places.now k 0 in
    let model : IsModelAt c.args.models.now card place = c.requires.models k card place at.1 (slice_get-get_or c.args.places.now k 0 (omega (arith, c.requires.places))) in
    let pushed : c.push.new.self.items ≡ c.loop-place.transistors.items ++ c.transistor_of.result ∷ [] = c.in_ok-push.ensures.items in
    let all = all_stand_push c.args.models.now (names ++ before) (take k c.args.cards.now) c.loop-place.transistors.items card c.transistor_of.result
    (c.loop-place.invariant names before e ends)
    (stands_for c.args.models.now names before card _ place c.args.storage c.transistor_of.result e
    (ends k card _ at.1 (slice_get-get_or c.args.ends.now k _ (omega (arith, c.requires.ends)))) model
    c.transistor_of.ensures.model c.transistor_of.ensures.drain c.transistor_of.ensures.gate c.transistor_of.ensures.source) in
    subst (λ cards. AllStandFor c.args.models.now (names ++ before) cards c.push.new.self.items) (sym (take_at c.args.cards.now k card lt is))
    (subst (AllStandFor c.args.models.now (names ++ before) (take k c.args.cards.now ++ card ∷ [])) (sym pushed) all)
