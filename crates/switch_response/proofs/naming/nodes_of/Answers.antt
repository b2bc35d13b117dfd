use Rattle.std.proofs.Common.{◌≡◌, ℕ, List, [], ◌++◌, map, ◌∙◌, ap, subst}
use Rattle.switch_response.specs.Wiring.{firsts, pin_names, card_names}
use Rattle.switch_response.specs.Places.{Grows, AreAllEnds}
use Rattle.std.proofs.lemmas.List.{append-nil}
use Rattle.switch_response.proofs.NameLists.{grows_through}
use Rattle.switch_response.proofs.naming.nodes_of.Goals as goal

pub returns-clause-names : goal.returns-clause-names
returns-clause-names c before is =
    let start : List (List ℕ) = c.new-nodes.result.names.items in
    let mid : List (List ℕ) = c.place_pins.new.self.names.items in
    let new : List (List ℕ) = c.place_cards.new.self.names.items in
    let pins : Grows before start (pin_names c.args.part.now) mid = subst (λ xs. Grows before start (map (λ p. p.0) xs) mid) c.as_slice.ensures (c.in_ok-place_pins.ensures.names before is) in
    let cards : Grows before mid (card_names c.args.part.now.transistors) new = subst (λ xs. Grows before mid (card_names xs) new) c.as_slice-2.ensures (c.in_ok-ends.ensures.names before is) in
    let all : List (List ℕ) = pin_names c.args.part.now ++ card_names c.args.part.now.transistors in
    let both : Grows before start all new = grows_through before start (pin_names c.args.part.now) (card_names c.args.part.now.transistors) mid new pins cards in
    let none : start ≡ [] = c.new-nodes.ensures.names in
    (subst (λ xs. Grows before xs all new) none both) ∙ ap (λ b. firsts b all) (append-nil before)

pub returns-clause-ends : goal.returns-clause-ends
returns-clause-ends c before is =
    subst (λ xs. AreAllEnds c.place_cards.new.self.names.items before xs c.in_ok-ends.ends.items) c.as_slice-2.ensures (c.in_ok-ends.ensures.ends before is)
