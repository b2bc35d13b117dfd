use Rattle.std.proofs.Common.{◌≡◌, ◌+◌, ◌<◌, ℕ, List, [], ◌∷◌, ◌++◌, take, length, get_or, sym, ◌∙◌, ap, subst, length-append, arith}
use Rattle.circuit.specs.declared.netlist.Transistor.{Transistor as Card}
use Rattle.switch_response.specs.Wiring.{card_names, names_on}
use Rattle.switch_response.specs.Places.{Grows, AreAllEnds}
use Rattle.switch_response.proofs.NameLists.{take_at, grows_through}
use Rattle.switch_response.proofs.CardEnds.{ends_push, card_names_more}
use Rattle.switch_response.proofs.naming.Nodes.place_cards.Goals as goal

pub loop-card-preserved : goal.loop-card-preserved
loop-card-preserved c =
    let mid : List (List ℕ) = c.loop-card.self.names.items in
    let new : List (List ℕ) = c.place_card.new.self.names.items in
    let card : Card = c.card-item.result in
    let lt : c.loop-card.card-index < length c.args.cards.now = omega arith in
    let items : c.push.new.self.items ≡ c.loop-card.ends.items ++ c.in_ok-place_card.field-0 ∷ [] = c.in_ok-push.ensures.items in
    record {
      index = c.in_ok-place_card.ensures.index;
      names = λ before is.
          let old : List (List ℕ) = c.args.self.now.names.items in
          let more : card_names (take (c.loop-card.card-index + 1) c.args.cards.now) ≡ card_names (take c.loop-card.card-index c.args.cards.now) ++ names_on card =
          ap card_names (take_at c.args.cards.now c.loop-card.card-index card lt c.card-item.is) ∙ card_names_more (take c.loop-card.card-index c.args.cards.now) card in
          subst (λ xs. Grows before old xs new) (sym more)
          (grows_through before old (card_names (take c.loop-card.card-index c.args.cards.now)) (names_on card) mid new (c.loop-card.invariant.names before is) (c.in_ok-place_card.ensures.names before is));
      ends = λ before is. subst (AreAllEnds new before c.args.cards.now) (sym items)
          (ends_push before mid (names_on card) new c.args.cards.now c.loop-card.ends.items card c.in_ok-place_card.field-0
          (c.in_ok-place_card.ensures.names before is) (c.loop-card.invariant.ends before is) (omega (arith, c.loop-card.invariant.count))
          (c.card-item.is ∙ ap (λ k. get_or c.args.cards.now k card) (sym c.loop-card.invariant.count)) (c.in_ok-place_card.ensures.ends before is));
      count = ap length items ∙ simp length-append (omega (arith, c.loop-card.invariant.count));
    }
