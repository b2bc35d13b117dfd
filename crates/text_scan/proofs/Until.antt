-- How far a text goes on, by its places.
use Rattle.std.proofs.Common.{◌≡◌, ℕ, zero, suc, ◌+◌, ◌<◌, ◌≤◌, Bool, true, false, cond, List, [], ◌∷◌, length, drop, take, ◌-◌, ◌&&◌, inl, inr, refl, ap, ◌∙◌, arith}
use Rattle.std.proofs.lemmas.List.{drop_more, take_rest, drop-drop}
use Rattle.std.proofs.lemmas.Bool.{cases_lt}
use Rattle.std.proofs.Common.{eqb, get_or, sym, subst, length-drop}
use Rattle.memchr.specs.Find.{NoneBefore, Nowhere, Passes, is_byte}
use Rattle.text_scan.specs.Bytes.{until, begins_with, begins_with_pair}

-- the first place at which the test holds, or the length where it holds nowhere
pub until-is : (test : List ℕ → Bool) (text : List ℕ) (r : ℕ) → r ≤ length text → ((k : ℕ) → k < r → test (drop k text) ≡ false) → (r < length text → test (drop r text) ≡ true) → until test text ≡ r
unfolding until
until-is test [] r le none here = omega arith
until-is test (b ∷ bs) zero le none here = rw (here (omega arith)) refl
until-is test (b ∷ bs) (suc r) le none here =
    rw (none 0 (omega arith)) (ap suc (until-is test bs r (omega arith) (λ k h. none (suc k) (omega arith)) (λ h. here (omega arith))))

pub until-all : (test : List ℕ → Bool) (text : List ℕ) (r : ℕ) → length text ≤ r → ((k : ℕ) → k < r → test (drop k text) ≡ false) → until test text ≡ length text
until-all test text r le none = until-is test text (length text) (omega arith) (λ k h. none k (omega arith)) (λ h. absurd (omega arith))

-- where a loop stops that asks the test of the rest of the text at each place
pub until-here : (test : List ℕ → Bool) (text : List ℕ) (r : ℕ) → r < length text → ((k : ℕ) → k < r → test (drop k text) ≡ false) → true ≡ test (take (length text - r) (drop r text)) → until test text ≡ r
until-here test text r lt none here = until-is test text r (omega arith) none (λ _. ap test (sym (take_rest text r)) ∙ sym here)

pub until-le : (test : List ℕ → Bool) (text : List ℕ) → until test text ≤ length text
unfolding until
until-le test [] = omega arith
until-le test (b ∷ bs) = go (test (b ∷ bs)) (until-le test bs)
  where
    go : (g : Bool) → until test bs ≤ length bs → cond g 0 (suc (until test bs)) ≤ suc (length bs)
    go true h = omega arith
    go false h = omega arith

pub not_true : (b : Bool) → (b ≡ true → ⊥) → b ≡ false
not_true true h = absurd (h refl)
not_true false h = refl

begins_with-drop : (byte : ℕ) (text : List ℕ) (k : ℕ) → k < length text → begins_with byte (drop k text) ≡ eqb (get_or text k 0) byte
unfolding begins_with
begins_with-drop byte text k h = rw (drop_more text k 0 h) refl

-- what a search for a byte answers
pub until-byte-found : (byte : ℕ) (text : List ℕ) (n : ℕ) → (NoneBefore (Passes (is_byte byte) text) 0 (length text) n × Passes (is_byte byte) text n) → until (begins_with byte) text ≡ n
until-byte-found byte text n h =
    let high = h.0.high in
    until-is (begins_with byte) text n (omega arith)
    (λ k lt. begins_with-drop byte text k (omega arith) ∙ not_true (eqb (get_or text k 0) byte) (h.0.before k (omega arith) lt))
    (λ lt. begins_with-drop byte text n lt ∙ h.1)

pub until-byte-none : (byte : ℕ) (text : List ℕ) → Nowhere (Passes (is_byte byte) text) 0 (length text) → until (begins_with byte) text ≡ length text
until-byte-none byte text h =
    until-all (begins_with byte) text (length text) (omega arith) (λ k lt. begins_with-drop byte text k lt ∙ not_true (eqb (get_or text k 0) byte) (h k (omega arith) lt))

and_false : (x y : Bool) → x ≡ false → (x && y) ≡ false
and_false true y h = absurd cc
and_false false y h = refl

-- where the first byte doesn't stand, the two don't
pub pair-false : (c d : ℕ) (text : List ℕ) → begins_with c text ≡ false → begins_with_pair c d text ≡ false
unfolding begins_with begins_with_pair
pair-false c d [] h = refl
pair-false c d (b ∷ bs) h = and_false (eqb b c) (begins_with d bs) h

-- two bytes that stand at no place before `at`, nor at the n places from there that the first byte isn't at
pub pair-none : (c d : ℕ) (text : List ℕ) (at n : ℕ) → at + n ≤ length text → ((k : ℕ) → k < at → begins_with_pair c d (drop k text) ≡ false)
    → Nowhere (Passes (is_byte c) (take (length text - at) (drop at text))) 0 n → (k : ℕ) → k < at + n → begins_with_pair c d (drop k text) ≡ false
pair-none c d text at n le before none k lt = elim (cases_lt k at) [
  | inl less ↦ before k less
  | inr more ↦
      let e : drop at text ≡ take (length text - at) (drop at text) = sym (take_rest text at) in
      let len : length (drop at text) ≡ length text - at = length-drop at text in
      let same : drop (k - at) (drop at text) ≡ drop k text = drop-drop (k - at) at text ∙ ap (λ z. drop z text) (omega arith) in
      let away : eqb (get_or (drop at text) (k - at) 0) c ≡ false = not_true (eqb (get_or (drop at text) (k - at) 0) c) (λ yes. none (k - at) (omega arith) (omega arith) (subst (λ z. eqb (get_or z (k - at) 0) c ≡ true) e yes)) in
      pair-false c d (drop k text) (ap (begins_with c) (sym same) ∙ begins_with-drop c (drop at text) (k - at) (omega arith) ∙ away)
]
