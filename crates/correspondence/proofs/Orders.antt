-- The order of entries: by their keys, and among equal keys by their rows.
use Rattle.std.proofs.Common.{◌≡◌, ◌<◌, ◌≤◌, ℕ, true, false, List, [], ◌∷◌, length, slice_index_or, refl, sym, ap, subst, ◌∙◌, arith}
use Rattle.std.specs.Prelude.{IsSorted}
use Rattle.std.specs.Ordering.{nat_cmp, is_lt, is_ne, ordering_then, ordering_reverse}
use Rattle.std.specs.Cmp.{IsTotalOrder, IsStrictWeakOrder, nat_cmp_total, nat_cmp_is, on_total, then_total}
use Rattle.std.specs.Cmp.Lexicographic.{slice_cmp, nat_list_cmp_total}
use Rattle.std.specs.List.Sorted.{IsPartitionedBy}
use Rattle.std.specs.declared.cmp.Ordering.{Ordering}
use Rattle.std.specs.declared.cmp.Ordering.TheVariants.{Less, Equal, Greater}
use Rattle.std.proofs.lemmas.Cmp.{tied_itself}
use Rattle.std.proofs.lemmas.List.Sorted.{ranks_by, sorted_far}
use Rattle.correspondence.specs.Index.{Pair, entry_cmp, key_cmp, key_of}
use Rattle.correspondence.specs.declared.entry.Entry.{Entry}

key_total : IsTotalOrder key_cmp
key_total = then_total (on_total (λ (k : Pair). k.0) nat_cmp_total) (on_total (λ (k : Pair). k.1) nat_list_cmp_total)

entry_total : IsTotalOrder entry_cmp
entry_total = then_total (on_total key_of key_total) (on_total (λ (e : Entry). e.row) nat_cmp_total)

entries_order : IsStrictWeakOrder (λ x y. is_lt (entry_cmp x y))
entries_order = ranks_by entry_total (λ (e : Entry). e)

-- a later entry is not below an earlier one
pub later : (xs : List Entry) (i j : ℕ) (d : Entry) → IsSorted entry_cmp xs → i ≤ j → j < length xs → is_lt (entry_cmp (slice_index_or xs j d) (slice_index_or xs i d)) ≡ false
later xs i j d up le lt = sorted_far (λ x y. is_lt (entry_cmp x y)) entries_order xs up i j d le lt

less : (v : Ordering) → is_lt v ≡ true → v ≡ Less
less Less h = refl
less Equal h = absurd (cc)
less Greater h = absurd (cc)

greater : (v : Ordering) → is_lt v ≡ false → is_ne v ≡ true → v ≡ Greater
greater Less h k = absurd (cc)
greater Equal h k = absurd (cc)
greater Greater h k = refl

module _ {K : Type 0} {R : K → K → Ordering} (o : IsTotalOrder R) where
  below_by : (v s : Ordering) (a b q : K) → R b a ≡ v → is_lt (ordering_then v s) ≡ false → R b q ≡ Less → R a q ≡ Less
  below_by Less s a b q e h l = absurd (cc)
  below_by Equal s a b q e h l = sym (o.congr b a q e) ∙ l
  below_by Greater s a b q e h l = o.trans a b q (o.antisymm a b ∙ ap ordering_reverse e) l

  -- a key that is above another stands at no later place than it
  above : (s : Ordering) (a q : K) → is_lt (R a q) ≡ false → is_ne (R a q) ≡ true → is_lt (ordering_then (R q a) s) ≡ false → ⊥
  above s a q h n far =
      let up : R q a ≡ Less = o.antisymm q a ∙ ap ordering_reverse (greater (R a q) h n) in
      let e : true ≡ false = rw up at far in
      cc

  itself : (q : K) → is_lt (R q q) ≡ true → ⊥
  itself q h = let e : false ≡ true = rw (tied_itself o q) at h in cc

  at_equal : (q : K) (m n : ℕ) → is_lt (ordering_then (R q q) (nat_cmp m n)) ≡ false → m < n → ⊥
  at_equal q m n h lt =
      let same : R q q ≡ Equal = tied_itself o q in
      let here : is_lt (ordering_then Equal (nat_cmp m n)) ≡ false = rw same at h in
      let e : true ≡ false = rw (sym (nat_cmp_is m n Less lt)) at here in
      cc

-- the entries whose keys are below a key stand before the others
pub partitioned : (xs : List Entry) (q : Pair) → IsSorted entry_cmp xs → IsPartitionedBy (λ e. is_lt (key_cmp (key_of e) q)) xs
partitioned xs q up i j d le lt h =
    ap is_lt (below_by key_total _ _ _ _ q refl (later xs i j d up le lt) (less _ h))

-- a key is not below itself
pub not_below : (words q : Pair) → words ≡ q → is_lt (key_cmp words q) ≡ true → ⊥
not_below words q e h = itself key_total q (subst (λ w. is_lt (key_cmp w q) ≡ true) e h)

-- behind an entry that is above a key there is none that has it
pub not_behind : (a b : Entry) (q : Pair) → is_lt (key_cmp (key_of a) q) ≡ false → is_ne (key_cmp (key_of a) q) ≡ true
    → is_lt (entry_cmp b a) ≡ false → key_of b ≡ q → ⊥
not_behind a b q h n far e =
    above key_total (nat_cmp b.row a.row) (key_of a) q h n
    (subst (λ w. is_lt (ordering_then (key_cmp w (key_of a)) (nat_cmp b.row a.row)) ≡ false) e far)

-- behind an entry there is none that has its key and an earlier row
pub not_earlier : (a b : Entry) (q : Pair) → key_of a ≡ q → key_of b ≡ q → is_lt (entry_cmp b a) ≡ false → b.row < a.row → ⊥
not_earlier a b q e f far lt =
    at_equal key_total q b.row a.row
    (subst (λ v. is_lt (ordering_then (key_cmp q v) (nat_cmp b.row a.row)) ≡ false) e
    (subst (λ w. is_lt (ordering_then (key_cmp w (key_of a)) (nat_cmp b.row a.row)) ≡ false) f far)) lt

-- a key of which nothing is left, and one of which something is
pub at_end : (words : List ℕ) → length words < 1 → slice_cmp nat_cmp words [] ≡ Equal
at_end [] h = refl
at_end (b ∷ bs) h = absurd (omega arith)

pub before_end : (words : List ℕ) → 1 ≤ length words → slice_cmp nat_cmp words [] ≡ Greater
before_end [] h = absurd (omega arith)
before_end (b ∷ bs) h = refl
