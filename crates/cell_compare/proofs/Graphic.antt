-- Lists whose elements pass a test, and names whose bytes can be shown.
use Rattle.std.proofs.Common.{◌≡◌, ◌⊎◌, inl, inr, ℕ, zero, suc, ◌+◌, refl, sym, ◌∙◌, ap, subst, arith, List, [], ◌∷◌, ◌++◌, map, filter, length, Option, Some, None, Bool, true, false, not, ◌&&◌, ◌||◌, nat_le, nat_lt, if◌then◌else◌, slice_get}
use Rattle.std.specs.List.{flat_map, list_all}
use Rattle.std.proofs.lemmas.List.Folds.{list_all-append}
use Rattle.text_scan.specs.declared.limits.Limits.{Limits}
use Rattle.file_rules.specs.Names.{is_name, is_mark, is_name_within, has_name_bytes, is_graphic, are_graphic, is_shown}
use Rattle.file_rules.specs.Kept.{both_true, names_graphic}

-- ---- lists

pub all_at : {X : Type 0} (p : X → Bool) (xs : List X) (k : ℕ) (x : X) → list_all p xs ≡ true → slice_get xs k ≡ Some x → p x ≡ true
all_at p [] k x h e = absurd cc
all_at p (y ∷ xs) zero x h e =
    let same : y ≡ x = cc in
    subst (λ z. p z ≡ true) same (both_true _ _ h).0
all_at p (y ∷ xs) (suc k) x h e = all_at p xs k x (both_true _ _ h).1 e

pub all_joined : {X : Type 0} (p : X → Bool) (xs ys : List X) → list_all p xs ≡ true → list_all p ys ≡ true → list_all p (xs ++ ys) ≡ true
all_joined p xs ys h k = rw (list_all-append p xs ys, h, k) refl

pub all_parts : {X : Type 0} (p : X → Bool) (xs ys : List X) → list_all p (xs ++ ys) ≡ true → (list_all p xs ≡ true) × (list_all p ys ≡ true)
all_parts p xs ys h = both_true _ _ (sym (list_all-append p xs ys) ∙ h)

pub all_cons : {X : Type 0} (p : X → Bool) (x : X) (xs : List X) → p x ≡ true → list_all p xs ≡ true → list_all p (x ∷ xs) ≡ true
all_cons p x xs h k = rw (h, k) refl

-- what holds of the elements holds of what is made of them
pub all_mapped : {X Y : Type 0} (p : X → Bool) (q : Y → Bool) (f : X → Y) → ((x : X) → p x ≡ true → q (f x) ≡ true) → (xs : List X) → list_all p xs ≡ true → list_all q (map f xs) ≡ true
all_mapped p q f step [] h = refl
all_mapped p q f step (x ∷ xs) h =
    let b : (p x ≡ true) × (list_all p xs ≡ true) = both_true _ _ h in
    all_cons q (f x) (map f xs) (step x b.0) (all_mapped p q f step xs b.1)

pub all_flat : {X Y : Type 0} (p : X → Bool) (q : Y → Bool) (f : X → List Y) → ((x : X) → p x ≡ true → list_all q (f x) ≡ true) → (xs : List X) → list_all p xs ≡ true → list_all q (flat_map f xs) ≡ true
all_flat p q f step [] h = refl
all_flat p q f step (x ∷ xs) h =
    let b : (p x ≡ true) × (list_all p xs ≡ true) = both_true _ _ h in
    all_joined q (f x) (flat_map f xs) (step x b.0) (all_flat p q f step xs b.1)

filtered_by : {X : Type 0} (p : X → Bool) (keep : Bool) (x : X) (rest : List X) → p x ≡ true → list_all p rest ≡ true → list_all p (if keep then x ∷ rest else rest) ≡ true
filtered_by p true x rest h k = all_cons p x rest h k
filtered_by p false x rest h k = k

pub all_filtered : {X : Type 0} (p keep : X → Bool) (xs : List X) → list_all p xs ≡ true → list_all p (filter keep xs) ≡ true
all_filtered p keep [] h = refl
all_filtered p keep (x ∷ xs) h =
    let b : (p x ≡ true) × (list_all p xs ≡ true) = both_true _ _ h in
    filtered_by p (keep x) x (filter keep xs) b.0 (all_filtered p keep xs b.1)

-- ---- names

pub name_graphic : (name : List ℕ) → is_name name ≡ true → are_graphic name ≡ true
unfolding is_name
name_graphic name h =
    let rest : (has_name_bytes name && (if is_mark name then false else true)) ≡ true = (both_true _ _ h).1 in
    names_graphic name (both_true _ _ rest).0

pub within_graphic : (limits : Limits) (name : List ℕ) → is_name_within limits name ≡ true → are_graphic name ≡ true
within_graphic limits name h = name_graphic name (both_true _ _ h).0

pub shown_graphic : (word : List ℕ) → is_shown word ≡ true → are_graphic word ≡ true
shown_graphic word h = (both_true _ _ (both_true _ _ h).1).1

pub one_graphic : (word : List ℕ) → are_graphic word ≡ true → list_all are_graphic (word ∷ []) ≡ true
one_graphic word h = rw h refl
