-- A loop that writes each value of a state.
use Rattle.std.proofs.Common.{◌≡◌, ◌≢◌, ℕ, suc, ◌+◌, ◌<◌, ◌≤◌, refl, ◌∙◌, arith, sym, ap, List, [], ◌∷◌, length, set, below_more, get_or-set_same, get_or-set_other}
use Rattle.tern_core.specs.declared.tern.Tern.{Tern}
use Rattle.tern_core.specs.declared.tern.Tern.TheVariants as tern
use Rattle.liberty_function.specs.Sources.{value_at}
use Rattle.liberty_meaning.specs.Behaviour.{values_from}

pub record IsWritten (f : ℕ → Tern) (old now : List Tern) (k : ℕ) : Type 0 where
  pub done : (j : ℕ) → j < k → value_at now j ≡ f j
  pub left : (j : ℕ) → k ≤ j → value_at now j ≡ value_at old j

pub written_none : (f : ℕ → Tern) (old : List Tern) → IsWritten f old old 0
written_none f old = record { done = λ j h. absurd (omega arith); left = λ j h. refl }

pub written_more : (f : ℕ → Tern) (old now : List Tern) (k : ℕ) (v : Tern) → k < length now → v ≡ f k → IsWritten f old now k → IsWritten f old (set now k v) (k + 1)
written_more f old now k v h e w = record {
  done = below_more (λ j. value_at (set now k v) j ≡ f j) k
      (λ j l. let ne : j ≢ k = omega arith in get_or-set_other now k j v tern.Unknown ne ∙ w.done j l)
      (get_or-set_same now k v tern.Unknown h ∙ e);
  left = λ j l. let ne : j ≢ k = omega arith in get_or-set_other now k j v tern.Unknown ne ∙ w.left j (omega arith);
}

pub values_are : (xs : List Tern) (f : ℕ → Tern) (j : ℕ) → ((k : ℕ) → k < length xs → value_at xs k ≡ f (j + k)) → xs ≡ values_from f j (length xs)
unfolding values_from
values_are [] f j h = refl
values_are (x ∷ xs) f j h =
    let e : j + 0 ≡ j = omega arith in
    let a : x ≡ f j = h 0 (omega arith) ∙ ap f e in
    let b = values_are xs f (j + 1) (λ k l. let s : j + suc k ≡ (j + 1) + k = omega arith in h (suc k) (omega arith) ∙ ap f s) in
    rw (← a, ← b) refl

-- what was written is the list of values
pub written_all : (f : ℕ → Tern) (old now : List Tern) (k : ℕ) → IsWritten f old now k → length now ≤ k → length now ≡ length old → now ≡ values_from f 0 (length old)
written_all f old now k w h e = values_are now f 0 (λ j l. let s : 0 + j ≡ j = omega arith in w.done j (omega arith) ∙ ap f (sym s)) ∙ ap (λ n. values_from f 0 n) e

-- a list is the list of its values
pub values_stay : (xs : List Tern) → xs ≡ values_from (λ k. value_at xs k) 0 (length xs)
values_stay xs = values_are xs (λ k. value_at xs k) 0 (λ k l. let s : 0 + k ≡ k = omega arith in ap (λ j. value_at xs j) (sym s))
