-- The order of words, and of keys with their places.
use Rattle.std.proofs.Common.{◌≡◌, ◌<◌, ◌≤◌, ℕ, true, false, List, ◌∷◌, length, slice_index_or, Some, inl, inr, refl, sym, ap, subst, ◌∙◌, arith}
use mathlib.Core.Logic.{◌⊎◌}
use Rattle.std.specs.Prelude.{IsSorted, slice_get}
use Rattle.std.specs.Ordering.{nat_cmp, is_lt, is_eq, ordering_then, ordering_reverse}
use Rattle.std.specs.Cmp.{IsTotalOrder, IsStrictWeakOrder, nat_cmp_total, nat_cmp_is, on_total, then_total}
use Rattle.std.specs.Cmp.Lexicographic.{slice_cmp, bytes_decides, nat_list_cmp_total}
use Rattle.std.specs.declared.cmp.Ordering.{Ordering}
use Rattle.std.specs.declared.cmp.Ordering.TheVariants.{Less, Equal, Greater}
use Rattle.std.proofs.lemmas.Bool.{cases_lt}
use Rattle.std.proofs.lemmas.Cmp.{tied_itself}
use Rattle.std.proofs.lemmas.Map.Text.{is_eq-slice_cmp}
use Rattle.std.proofs.lemmas.List.Sorted.{ranks_by, sorted_far}
use Rattle.std.proofs.lemmas.Option.{get_or_from_slice_get, slice_get_within}
use Rattle.waiver_source.specs.Index.{Words, words_cmp, words_of, placed_cmp}
use Rattle.waiver_source.specs.declared.entry.PlacedKey.{PlacedKey}

pub words_total : IsTotalOrder words_cmp
words_total = then_total (on_total (λ (q : Words). q.0) nat_list_cmp_total) (then_total (on_total (λ (q : Words). q.1.0) nat_list_cmp_total) (on_total (λ (q : Words). q.1.1) nat_list_cmp_total))

placed_total : IsTotalOrder placed_cmp
placed_total = then_total (on_total (λ (k : PlacedKey). words_of k.key) words_total) (on_total (λ (k : PlacedKey). k.place) nat_cmp_total)

same_text : (a b : List ℕ) → slice_cmp nat_cmp a b ≡ Equal → a ≡ b
same_text a b h = (bytes_decides a b).0 (sym (is_eq-slice_cmp a b) ∙ ap is_eq h)

both_equal : (v w : Ordering) → ordering_then v w ≡ Equal → (v ≡ Equal) × (w ≡ Equal)
both_equal Less w h = absurd (cc)
both_equal Equal w h = (refl, h)
both_equal Greater w h = absurd (cc)

pub same_words : (a b : Words) → words_cmp a b ≡ Equal → a ≡ b
same_words (a, (b, c)) (x, (y, z)) h =
    let v = both_equal _ _ h in
    let w = both_equal _ _ v.1 in
    let e = same_text a x v.0 in
    let f = same_text b y w.0 in
    let g = same_text c z w.1 in
    rw (e, f, g) refl

pub equal_itself : (a : Words) → words_cmp a a ≡ Equal
equal_itself a = tied_itself words_total a

-- words that are before themselves
pub not_below : (a b : Words) → a ≡ b → words_cmp a b ≡ Less → ⊥
not_below a b e h =
    let f : words_cmp b b ≡ Less = subst (λ z. words_cmp z b ≡ Less) e h in
    let g : Equal ≡ Less = sym (equal_itself b) ∙ f in
    cc

pub never_greater : (a b : Words) → a ≡ b → words_cmp a b ≡ Greater → ⊥
never_greater a b e h =
    let f : words_cmp b b ≡ Greater = subst (λ z. words_cmp z b ≡ Greater) e h in
    let g : Equal ≡ Greater = sym (equal_itself b) ∙ f in
    cc

less_not : (v : Ordering) → v ≡ Less → is_lt v ≡ false → ⊥
less_not Less e h = cc
less_not Equal e h = cc
less_not Greater e h = cc

not_less : (m n : ℕ) → is_lt (nat_cmp n m) ≡ false → m ≤ n
not_less m n h = elim (cases_lt n m) [ inl lt ↦ absurd (less_not (nat_cmp n m) (sym (nat_cmp_is n m Less lt)) h) | inr le ↦ le ]

-- how a key stands to one that isn't before it
abbrev pub Stands : PlacedKey → PlacedKey → Type 0
Stands a b = (words_cmp (words_of a.key) (words_of b.key) ≡ Less) ⊎ ((words_of a.key ≡ words_of b.key) × (a.place ≤ b.place))

stands : (v : Ordering) (a b : Words) (m n : ℕ) → words_cmp b a ≡ v → is_lt (ordering_then v (nat_cmp n m)) ≡ false → (words_cmp a b ≡ Less) ⊎ ((a ≡ b) × (m ≤ n))
stands Less a b m n e h = absurd (cc)
stands Equal a b m n e h = inr (sym (same_words b a e), not_less m n h)
stands Greater a b m n e h = inl (words_total.antisymm a b ∙ ap ordering_reverse e)

placed_order : IsStrictWeakOrder (λ x y. is_lt (placed_cmp x y))
placed_order = ranks_by placed_total (λ (k : PlacedKey). k)

-- keys in order
pub far : (ks : List PlacedKey) → IsSorted placed_cmp ks → (i j : ℕ) (a b : PlacedKey) → i ≤ j → slice_get ks i ≡ Some a → slice_get ks j ≡ Some b → Stands a b
far ks up i j a b le at bt =
    let l = sorted_far (λ x y. is_lt (placed_cmp x y)) placed_order ks up i j a le (slice_get_within ks j b bt) in
    let m = subst (λ z. is_lt (placed_cmp z (slice_index_or ks i a)) ≡ false) (get_or_from_slice_get ks j b a bt) l in
    let n : is_lt (placed_cmp b a) ≡ false = subst (λ z. is_lt (placed_cmp b z) ≡ false) (get_or_from_slice_get ks i a a at) m in
    stands _ (words_of a.key) (words_of b.key) a.place b.place refl n
