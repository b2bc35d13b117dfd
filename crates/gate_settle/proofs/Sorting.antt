-- Gates in an order of dependence, one gate more.
use Rattle.std.proofs.Common.{◌≡◌, Bool, true, false, List, [], ◌∷◌, ◌++◌, refl}
use Rattle.std.specs.Prelude.{◌&&◌, not}
use Rattle.gate_settle.specs.declared.gate.Gate.{Gate}
use Rattle.gate_settle.specs.Order.{marked, all_known, all_unknown, is_ready, is_ordered, known_after}
use Rattle.gate_settle.proofs.Settling.{both}

pub each : (a b : Bool) → a ≡ true → b ≡ true → (a && b) ≡ true
each true b h k = k
each false b h k = absurd (cc)

pub not_so : (a : Bool) → a ≡ false → not a ≡ true
not_so true h = absurd (cc)
not_so false h = refl

pub known_push : (gates : List Gate) (g : Gate) (b : Bool) (first : List Bool) → known_after (gates ++ g ∷ []) b first ≡ marked g.outputs b (known_after gates b first)
known_push [] g b first = refl
known_push (x ∷ gates) g b first = known_push gates g b (marked x.outputs b first)

pub ordered_push : (gates : List Gate) (g : Gate) (first : List Bool) → is_ordered first gates ≡ true → is_ready (known_after gates true first) g ≡ true → is_ordered first (gates ++ g ∷ []) ≡ true
ordered_push [] g first o r =
    let i = both (all_known first g.inputs) (all_unknown first g.outputs) r in
    each (all_known first g.inputs) (all_unknown first g.outputs && true) i.0 (each (all_unknown first g.outputs) true i.1 refl)
ordered_push (x ∷ gates) g first o r =
    let i = both (all_known first x.inputs) (all_unknown first x.outputs && is_ordered (marked x.outputs true first) gates) o in
    let j = both (all_unknown first x.outputs) (is_ordered (marked x.outputs true first) gates) i.1 in
    each (all_known first x.inputs) (all_unknown first x.outputs && is_ordered (marked x.outputs true first) (gates ++ g ∷ [])) i.0
    (each (all_unknown first x.outputs) (is_ordered (marked x.outputs true first) (gates ++ g ∷ [])) j.0 (ordered_push gates g (marked x.outputs true first) j.1 r))
