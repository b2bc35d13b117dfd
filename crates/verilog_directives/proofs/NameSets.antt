-- The set of names that a tree holds, after a change.
use Rattle.std.proofs.Common.{◌≡◌, ℕ, Bool, true, false, cond, not, ◌||◌, ◌&&◌, List, [], ◌∷◌, map, refl, sym, ap, subst, ◌∙◌}
use Rattle.std.proofs.lemmas.Bool.{cases_Bool, cond-true, cond-false}
use Rattle.std.proofs.lemmas.Map.Text.{is_eq-slice_cmp}
use Rattle.std.specs.Ordering.{is_eq, nat_cmp, eq_by_cmp}
use Rattle.std.specs.Cmp.{eq_by_cmp_equiv}
use Rattle.std.specs.Cmp.Lexicographic.{slice_cmp, bytes_decides, nat_list_cmp_total, nat_list_eq_equiv}
use Rattle.std.specs.List.{list_any}
use Rattle.std.specs.Str.{bytes_eq}
use Rattle.std.specs.BTreeSet.{BTreeSet, contains_by, UpdatesBy}
use Rattle.std.specs.Set.{KeepsOthers}
use Rattle.std.specs.FinSet as set
use Rattle.std.specs.declared.alloc.Global.{Global}
use Rattle.std.specs.declared.vec.Vec.{Vec}
use Rattle.std.specs.declared.cmp.Ordering.{Ordering}
use Rattle.verilog_directives.specs.NameSet.{names_of}
use Rattle.verilog_directives.specs.Left.{Names}
use mathlib.Core.Logic.{⊎_elim}

abbrev Tree : Type 0
Tree = BTreeSet (Vec ℕ Global)

any-map : {A B : Type 0} (p : B → Bool) (f : A → B) (xs : List A) → list_any p (map f xs) ≡ list_any (λ x. p (f x)) xs
any-map p f [] = refl
any-map p f (x ∷ xs) = ap (λ z. p (f x) || z) (any-map p f xs)

-- a set has the names that the tree finds
pub contains-names_of : (tree : Tree) (q : List ℕ) → set.contains (names_of tree) q ≡ contains_by (λ v. slice_cmp nat_cmp q v.items) tree
contains-names_of tree q = set.contains-from_list nat_list_cmp_total _ q ∙ any-map (eq_by_cmp (slice_cmp nat_cmp) q) (λ v. v.items) tree.keys

same_bytes : (xs ys : List ℕ) → eq_by_cmp (slice_cmp nat_cmp) xs ys ≡ bytes_eq ys xs
same_bytes xs ys = is_eq-slice_cmp xs ys ∙ nat_list_eq_equiv.symm xs ys

apart : (bs q ks : List ℕ) → bytes_eq bs q ≡ false → is_eq (slice_cmp nat_cmp bs ks) ≡ true → is_eq (slice_cmp nat_cmp q ks) ≡ false
apart bs q ks n y = is_eq-slice_cmp q ks ∙ nat_list_eq_equiv.symm q ks ∙ sym (nat_list_eq_equiv.congr bs ks q (sym (is_eq-slice_cmp bs ks) ∙ y)) ∙ n

abbrev at : List ℕ → Vec ℕ Global → Bool
at q v = is_eq (slice_cmp nat_cmp q v.items)

abbrev vec_cmp : Vec ℕ Global → Vec ℕ Global → Ordering
vec_cmp x y = slice_cmp nat_cmp x.items y.items

other_names : (bs : List ℕ) (old new : Tree) → KeepsOthers (eq_by_cmp vec_cmp) (at bs) old.keys new.keys → (q : List ℕ) → bytes_eq bs q ≡ false → list_any (at q) new.keys ≡ list_any (at q) old.keys
unfolding KeepsOthers
other_names bs old new h q e = h (at q) (λ x y. (eq_by_cmp_equiv nat_list_cmp_total).congr q x.items y.items) (λ k. apart bs q k.items e)

-- after a change at the bytes bs the tree finds them or not, and other bytes as before
changed : (bs : List ℕ) (old new : Tree) (b : Bool) → UpdatesBy vec_cmp (λ v. slice_cmp nat_cmp bs v.items) old new b
    → (q : List ℕ) → set.contains (names_of new) q ≡ cond (bytes_eq bs q) b (set.contains (names_of old) q)
changed bs old new b h q = contains-names_of new q ∙ ⊎_elim
    (λ y. subst (λ l. list_any (at l) new.keys ≡ b) ((bytes_decides bs q).0 y) h.1 ∙ sym (cond-true (bytes_eq bs q) b (set.contains (names_of old) q) y))
    (λ n. other_names bs old new h.3 q n ∙ sym (contains-names_of old q) ∙ sym (cond-false (bytes_eq bs q) b (set.contains (names_of old) q) n))
    (cases_Bool (bytes_eq bs q))

with_one : (a x : Bool) → cond a true x ≡ (a || x)
with_one true x = refl
with_one false x = refl

without_one : (a x : Bool) → cond a false x ≡ (not a && x)
without_one true x = refl
without_one false x = refl

same_names : (s t : Names) → ((q : List ℕ) → set.contains s q ≡ set.contains t q) → s ≡ t
same_names s t same = set.same_set nat_list_cmp_total (set.slice_cmp-IsAntisymmetric set.nat_cmp-IsAntisymmetric) s t same

pub names_of-insert : (bs : List ℕ) (old new : Tree) → UpdatesBy vec_cmp (λ v. slice_cmp nat_cmp bs v.items) old new true → names_of new ≡ set.insert (names_of old) bs
names_of-insert bs old new h = same_names _ _ (λ q.
    changed bs old new true h q ∙ with_one (bytes_eq bs q) (set.contains (names_of old) q)
    ∙ ap (λ z. z || set.contains (names_of old) q) (sym (same_bytes q bs)) ∙ sym (set.contains-insert nat_list_cmp_total (names_of old) bs q))

pub names_of-remove : (bs : List ℕ) (old new : Tree) → UpdatesBy vec_cmp (λ v. slice_cmp nat_cmp bs v.items) old new false → names_of new ≡ set.remove (names_of old) bs
names_of-remove bs old new h = same_names _ _ (λ q.
    changed bs old new false h q ∙ without_one (bytes_eq bs q) (set.contains (names_of old) q)
    ∙ ap (λ z. not z && set.contains (names_of old) q) (sym (same_bytes q bs)) ∙ sym (set.contains-remove nat_list_cmp_total (names_of old) bs q))
