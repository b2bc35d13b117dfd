use Rattle.std.proofs.Common.{◌<◌, ℕ, List, [], ◌∷◌, length, sym, subst, arith}
use Rattle.switch_response.specs.Places.{Grows}
use Rattle.switch_response.proofs.NameLists.{map_take_at, grows_through}
use Rattle.switch_response.proofs.naming.Nodes.place_pins.Goals as goal

pub loop-pin-preserved : goal.loop-pin-preserved
loop-pin-preserved c = record {
  index = c.in_ok-place.ensures.index;
  names = λ before is.
      let old : List (List ℕ) = c.args.self.now.names.items in
      let mid : List (List ℕ) = c.loop-pin.self.names.items in
      let new : List (List ℕ) = c.place.new.self.names.items in
      let name : List ℕ = c.pin-item.result.0 in
      let one : Grows before mid (name ∷ []) new = subst (λ n. Grows before mid (n ∷ []) new) c.as_bytes.ensures (c.in_ok-place.ensures.names before is) in
      let lt : c.loop-pin.pin-index < length c.args.pins.now = omega arith in
      subst (λ xs. Grows before old xs new) (sym (map_take_at (λ p. p.0) c.args.pins.now c.loop-pin.pin-index c.pin-item.result lt c.pin-item.is))
      (grows_through before old _ (name ∷ []) mid new (c.loop-pin.invariant.names before is) one);
}
