use Rattle.std.proofs.Common.{◌≡◌, ◌<◌, ℕ, zero, suc, Bool, true, false, ◌&&◌, List, [], ◌∷◌, length, get_or, nat_lt, refl, sym, ◌∙◌, ap, subst, arith}
use Rattle.std.proofs.lemmas.Bool.Decides.{nat_tests}
use Rattle.gate_settle.specs.Settled.{are_places}
use Rattle.gate_settle.specs.Network.{Network}
use Rattle.gate_settle.proofs.network.GateNet.state_net.Goals as goal

both : (a b : Bool) → (a && b) ≡ true → (a ≡ true) × (b ≡ true)
both true b h = (refl, h)
both false b h = absurd cc

below : (k count : ℕ) → nat_lt k count ≡ true → k < count
below k count h = grind (arith, nat_tests)

place_at : (count : ℕ) (places : List ℕ) (k : ℕ) → are_places count places ≡ true → k < length places → get_or places k 0 < count
place_at count [] k h lt = absurd (omega arith)
place_at count (p ∷ places) zero h lt = below p count (both _ _ h).0
place_at count (p ∷ places) (suc k) h lt = place_at count places k (both _ _ h).1 (omega arith)

pub returns-clause-within : goal.returns-clause-within
returns-clause-within c =
    let n : Network = c.args.self.now in
    let places : are_places (length n.given) n.state_nets ≡ true =
    subst (λ (m : Network). are_places (length m.given) m.state_nets ≡ true) c.self.view_is c.self.invariant.2 in
    let read : c.as_slice.result.now ≡ n.state_nets = c.as_slice.ensures ∙ ap (λ (m : Network). m.state_nets) c.self.view_is in
    subst (λ xs. get_or xs c.args.state 0 < length n.given) (sym read) (place_at (length n.given) n.state_nets c.args.state places c.requires)
