-- The entries of keys in order, when one comes.
use Rattle.std.proofs.Common.{◌≡◌, ◌+◌, ◌<◌, ◌-◌, ◌++◌, ◌∷◌, [], ℕ, zero, suc, List, map, length, Option, Some, None, refl, sym, ap, subst, ◌∙◌, append-nil, arith}
use Rattle.std.specs.Prelude.{All, IsSorted, slice_get}
use Rattle.std.proofs.lemmas.List.Elements.{All-push}
use Rattle.std.proofs.lemmas.Option.{get_or_from_slice_get, slice_get_within}
use Rattle.waiver_source.specs.Index.{AreKeysOf, HasLatest, IsIndexOf, IsKeyOf, latest_behind, placed_cmp, placed_of, words}
use Rattle.waiver_source.specs.declared.waiver.Waiver.{Waiver}
use Rattle.waiver_source.specs.declared.entry.Entry.{Entry}
use Rattle.waiver_source.specs.declared.entry.PlacedKey.{PlacedKey}
use Rattle.waiver_source.proofs.Listed.{own_at, placed_at}
use Rattle.waiver_source.proofs.Raising.{Behind, latest_next}

-- what stands behind a list's first part
pub at_joint : {X : Type 0} (xs ys : List X) (x : X) → slice_get (xs ++ x ∷ ys) (length xs) ≡ Some x
at_joint [] ys x = refl
at_joint (y ∷ xs) ys x = at_joint xs ys x

first_stays : {X : Type 0} (xs ys : List X) (i : ℕ) (x : X) → slice_get xs i ≡ Some x → slice_get (xs ++ ys) i ≡ Some x
first_stays [] ys i x h = absurd (cc)
first_stays (y ∷ xs) ys zero x h = h
first_stays (y ∷ xs) ys (suc i) x h = first_stays xs ys i x h

long : {X Y : Type 0} (f : X → Y) (xs : List X) → length (map f xs) ≡ length xs
long f [] = refl
long f (x ∷ xs) = ap suc (long f xs)

pub none_left : {X : Type 0} (xs : List X) → length xs ≡ 0 → xs ≡ []
none_left [] h = refl
none_left (x ∷ xs) h = absurd (omega arith)

within_none : {X : Type 0} (xs : List X) (i : ℕ) → i < length xs → slice_get xs i ≡ None → ⊥
within_none [] i lt h = omega arith
within_none (x ∷ xs) zero lt h = cc
within_none (x ∷ xs) (suc i) lt h = within_none xs i (omega arith) h

module _ (waivers : List Waiver) (ks : List PlacedKey) (are : AreKeysOf waivers ks) where
  key_at_joint : (old rest : List PlacedKey) (k : PlacedKey) → ks ≡ old ++ k ∷ rest → slice_get ks (length old) ≡ Some k
  key_at_joint old rest k e = subst (λ xs. slice_get xs (length old) ≡ Some k) (sym e) (at_joint old rest k)

  -- a key that comes is that of a waiver
  pub key_own : (old rest : List PlacedKey) (k : PlacedKey) → ks ≡ old ++ k ∷ rest → IsKeyOf waivers k × (k.place < length waivers)
  key_own old rest k e =
      let o = own_at waivers ks are (length old) k (key_at_joint old rest k e) in
      (o, slice_get_within waivers k.place o.waiver o.at_place)

  behind_last : (es : List Entry) (rest : List PlacedKey) (k : PlacedKey) → ks ≡ map placed_of es ++ k ∷ rest → (o : Option Entry) → o ≡ slice_get es (length es - 1)
      → (n : ℕ) → length es ≡ n → Behind ks (length es) o
  behind_last es rest k e None h zero n = n
  behind_last es rest k e (Some x) h zero n = absurd (let f = slice_get_within es (length es - 1) x (sym h) in omega arith)
  behind_last es rest k e None h (suc m) n = absurd (within_none es (length es - 1) (omega arith) (sym h))
  behind_last es rest k e (Some x) h (suc m) n =
      let here : slice_get es m ≡ Some x = (let f : length es - 1 ≡ m = omega arith in subst (λ j. slice_get es j ≡ Some x) f (sym h)) in
      (m, omega arith, subst (λ xs. slice_get xs m ≡ Some x.placed) (sym e) (first_stays (map placed_of es) (k ∷ rest) m x.placed (placed_at es m x here)))

  module _ (up : IsSorted placed_cmp ks) where
    -- one entry more
    pub raised_more : (old : List Entry) (rest : List PlacedKey) (k : PlacedKey) (w : Waiver) (o : Option Entry) → ks ≡ map placed_of old ++ k ∷ rest → slice_get waivers k.place ≡ Some w
        → o ≡ slice_get old (length old - 1) → All (HasLatest waivers) old → All (HasLatest waivers) (old ++ record { placed = k; latest = latest_behind o k.key w.last } ∷ [])
    raised_more old rest k w o e wt last all =
        let key = key_own (map placed_of old) rest k e in
        let one : key.0.waiver ≡ w = (let f = key.0.at_place in cc) in
        let kt : slice_get ks (length old) ≡ Some k = subst (λ n. slice_get ks n ≡ Some k) (long placed_of old) (key_at_joint (map placed_of old) rest k e) in
        All-push (HasLatest waivers) old _ all
        (latest_next waivers ks are up (length old) k kt w wt (key.0.own ∙ ap words one) o (behind_last old rest k e o last (length old) refl)
        (λ x is. let xt : slice_get old (length old - 1) ≡ Some x = sym last ∙ is in
        subst (HasLatest waivers) (get_or_from_slice_get old (length old - 1) x x xt) (all (length old - 1) x (slice_get_within old (length old - 1) x xt))))

    -- all entries
    pub index_from : (es : List Entry) → map placed_of es ≡ ks → All (HasLatest waivers) es → IsIndexOf waivers es
    index_from es e all = record { keys = subst (AreKeysOf waivers) (sym e) are; sorted = subst (IsSorted placed_cmp) (sym e) up; latest = all }
