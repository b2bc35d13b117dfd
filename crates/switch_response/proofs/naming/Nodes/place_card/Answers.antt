use Rattle.std.proofs.Common.{◌≡◌, ℕ, List, [], ◌∷◌, subst}
use Rattle.switch_response.specs.Places.{Grows, IsPlaceOf}
use Rattle.switch_response.proofs.NameLists.{grows_through}
use Rattle.switch_response.proofs.CardEnds.{place_grows}
use Rattle.switch_response.proofs.naming.Nodes.place_card.Goals as goal

one : (before old new : List (List ℕ)) (x y : List ℕ) → x ≡ y → Grows before old (x ∷ []) new → Grows before old (y ∷ []) new
one before old new x y e h = subst (λ z. Grows before old (z ∷ []) new) e h

pub returns-clause-names : goal.returns-clause-names
returns-clause-names c before is =
    let d = c.args.card.now.drain in
    let g = c.args.card.now.gate in
    let s = c.args.card.now.source in
    let drain : Grows before c.args.self.now.names.items (d ∷ []) c.place.new.self.names.items = one before _ _ _ _ c.as_bytes.ensures (c.in_ok-drain.ensures.names before is) in
    let gate : Grows before c.place.new.self.names.items (g ∷ []) c.place-2.new.self.names.items = one before _ _ _ _ c.as_bytes-2.ensures (c.in_ok-gate.ensures.names before is) in
    let source : Grows before c.place-2.new.self.names.items (s ∷ []) c.place-3.new.self.names.items = one before _ _ _ _ c.as_bytes-3.ensures (c.in_ok-source.ensures.names before is) in
    grows_through before c.args.self.now.names.items (d ∷ g ∷ []) (s ∷ []) c.place-2.new.self.names.items c.place-3.new.self.names.items
    (grows_through before c.args.self.now.names.items (d ∷ []) (g ∷ []) c.place.new.self.names.items c.place-2.new.self.names.items drain gate) source

pub returns-clause-ends : goal.returns-clause-ends
returns-clause-ends c before is =
    let gate : Grows before c.place.new.self.names.items (c.args.card.now.gate ∷ []) c.place-2.new.self.names.items = one before _ _ _ _ c.as_bytes-2.ensures (c.in_ok-gate.ensures.names before is) in
    let source : Grows before c.place-2.new.self.names.items (c.args.card.now.source ∷ []) c.place-3.new.self.names.items = one before _ _ _ _ c.as_bytes-3.ensures (c.in_ok-source.ensures.names before is) in
    record {
      drain = subst (λ n. IsPlaceOf c.place-3.new.self.names.items before n c.in_ok-drain.drain) c.as_bytes.ensures
          (place_grows before _ (c.args.card.now.source ∷ []) _ _ c.in_ok-drain.drain source (place_grows before _ (c.args.card.now.gate ∷ []) _ _ c.in_ok-drain.drain gate (c.in_ok-drain.ensures.place before is)));
      gate = subst (λ n. IsPlaceOf c.place-3.new.self.names.items before n c.in_ok-gate.gate) c.as_bytes-2.ensures
          (place_grows before _ (c.args.card.now.source ∷ []) _ _ c.in_ok-gate.gate source (c.in_ok-gate.ensures.place before is));
      source = subst (λ n. IsPlaceOf c.place-3.new.self.names.items before n c.in_ok-source.source) c.as_bytes-3.ensures (c.in_ok-source.ensures.place before is);
    }
