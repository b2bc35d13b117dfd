-- The first of a list that a test holds of.
use Rattle.std.proofs.Common.{◌≡◌, ◌+◌, ◌<◌, ℕ, zero, suc, Bool, true, false, cond, List, [], ◌∷◌, Option, Some, None, refl, ap, ◌∙◌, arith}
use Rattle.std.specs.Prelude.{slice_get}
use Rattle.std.specs.List.{position_from}

module _ {X : Type 0} (p : X → Bool) where
  some_by : (b : Bool) (i k : ℕ) (x y : X) (ys : List X) → p y ≡ b → slice_get (y ∷ ys) k ≡ Some x → p x ≡ true
      → ((j : ℕ) (z : X) → j < k → slice_get (y ∷ ys) j ≡ Some z → p z ≡ true → ⊥)
      → ((n : ℕ) → k ≡ suc n → position_from p (i + 1) ys ≡ Some (i + 1 + n)) → cond b (Some i) (position_from p (i + 1) ys) ≡ Some (i + k)
  some_by true i zero x y ys e at t none rest = ap Some (omega arith)
  some_by true i (suc k) x y ys e at t none rest = absurd (none 0 y (omega arith) refl e)
  some_by false i zero x y ys e at t none rest = absurd (let same : x ≡ y = cc in let f : true ≡ false = cc in cc)
  some_by false i (suc k) x y ys e at t none rest = rest k refl ∙ ap Some (omega arith)

  some_from : (i k : ℕ) (x : X) (ys : List X) → slice_get ys k ≡ Some x → p x ≡ true
      → ((j : ℕ) (z : X) → j < k → slice_get ys j ≡ Some z → p z ≡ true → ⊥) → position_from p i ys ≡ Some (i + k)
  some_from i k x [] at t none = absurd (cc)
  some_from i zero x (y ∷ ys) at t none = some_by (p y) i zero x y ys refl at t none (λ n e. absurd (omega arith))
  some_from i (suc k) x (y ∷ ys) at t none =
      some_by (p y) i (suc k) x y ys refl at t none
      (λ n e.
      let same : k ≡ n = omega arith in
      some_from (i + 1) k x ys at t (λ j z lt zt. none (suc j) z (omega arith) zt) ∙ ap (λ m. Some (i + 1 + m)) same)

  -- where it holds at a place and nowhere before
  pub position_some : (k : ℕ) (x : X) (ys : List X) → slice_get ys k ≡ Some x → p x ≡ true
      → ((j : ℕ) (z : X) → j < k → slice_get ys j ≡ Some z → p z ≡ true → ⊥) → position_from p 0 ys ≡ Some k
  position_some k x ys at t none = some_from 0 k x ys at t none ∙ ap Some (omega arith)

  none_by : (b : Bool) (i : ℕ) (y : X) (o : Option ℕ) → p y ≡ b → (p y ≡ true → ⊥) → o ≡ None → cond b (Some i) o ≡ None
  none_by true i y o e n h = absurd (n e)
  none_by false i y o e n h = h

  none_from : (i : ℕ) (ys : List X) → ((j : ℕ) (z : X) → slice_get ys j ≡ Some z → p z ≡ true → ⊥) → position_from p i ys ≡ None
  none_from i [] none = refl
  none_from i (y ∷ ys) none = none_by (p y) i y _ refl (none 0 y refl) (none_from (i + 1) ys (λ j z zt. none (suc j) z zt))

  -- where it holds nowhere
  pub position_none : (ys : List X) → ((j : ℕ) (z : X) → slice_get ys j ≡ Some z → p z ≡ true → ⊥) → position_from p 0 ys ≡ None
  position_none ys none = none_from 0 ys none
