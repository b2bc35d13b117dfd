use Rattle.std.proofs.Common.{◌≡◌, ◌<◌, [], ◌∷◌, ◌++◌, Some, length, get_or, sym, ◌∙◌, ap, subst, length-append, arith}
use Rattle.std.specs.Prelude.{is_none}
use Rattle.std.specs.Option.{option_map}
use Rattle.circuit.specs.declared.netlist.Transistor.{Transistor as Card}
use Rattle.switch_response.specs.NameIndex.{found}
use Rattle.switch_response.specs.Wiring.{model_of}
use Rattle.switch_response.specs.Places.{AreModels, IsModelAt}
use Rattle.switch_response.proofs.CardModels.{model_found, model_known, model_missing, models_push, find_more, find_here}
use Rattle.switch_response.proofs.building.models_of.Goals as goal

pub returns-in-None-clause-missing : goal.returns-in-None-clause-missing
returns-in-None-clause-missing c =
    let card : Card = c.card-item.result in
    let lt : c.loop-card.card-index < length c.args.cards.now = omega arith in
    ap (option_map (λ c. c.model)) (find_here (λ k. is_none (model_of c.args.models.now k.model)) c.args.cards.now c.loop-card.card-index card c.loop-card.invariant.known lt c.card-item.is
    (model_missing c.args.models.now card c.in_ok-index.index c.in_ok-index.ensures (c.in-None.ensures ∙ ap (found c.in_ok-index.index) c.as_bytes.ensures)))
    ∙ ap Some (sym c.in_ok-copied-in-None.ensures)

pub loop-card-preserved : goal.loop-card-preserved
loop-card-preserved c =
    let card : Card = c.card-item.result in
    let lt : c.loop-card.card-index < length c.args.cards.now = omega arith in
    let items : c.push.new.self.items ≡ c.loop-card.places.items ++ c.in-Some.place ∷ [] = c.in_ok-push-in-Some.ensures.items in
    let at : IsModelAt c.args.models.now card c.in-Some.place = model_found c.args.models.now card c.in_ok-index.index c.in-Some.place c.in_ok-index.ensures (c.in-Some.ensures ∙ ap (found c.in_ok-index.index) c.as_bytes.ensures) in
    record {
      models = subst (AreModels c.args.models.now c.args.cards.now) (sym items)
          (models_push c.args.models.now c.args.cards.now c.loop-card.places.items card c.in-Some.place c.loop-card.invariant.models
          (c.card-item.is ∙ ap (λ k. get_or c.args.cards.now k card) (sym c.loop-card.invariant.count)) at);
      count = ap length items ∙ simp length-append (omega (arith, c.loop-card.invariant.count));
      known = find_more (λ k. is_none (model_of c.args.models.now k.model)) c.args.cards.now c.loop-card.card-index card c.loop-card.invariant.known lt c.card-item.is (model_known c.args.models.now card c.in-Some.place at);
    }
