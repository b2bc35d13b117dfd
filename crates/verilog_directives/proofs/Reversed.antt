-- Lists from their last element.
use Rattle.std.proofs.Common.{◌≡◌, ◌-◌, ◌<◌, Bool, true, false, ◌&&◌, List, [], ◌∷◌, ◌++◌, length, take, drop, refl, sym, ap, ◌∙◌, arith, length-append}
use Rattle.std.specs.Prelude.{reverse, slice_get, Option, None, Some, option_to_list}
use Rattle.std.specs.List.{list_all}
use Rattle.std.proofs.lemmas.List.{reverse-append}
use Rattle.std.proofs.lemmas.List.Folds.{list_all-append}
use Rattle.std.proofs.Math.Seq.{set-append_seam}
use Rattle.std.proofs.Math.ListN.{set}
use Rattle.verilog_directives.specs.declared.condition.Condition.{Condition}
use Rattle.verilog_directives.specs.Conditions.{is_read, is_taken}
use mathlib.Core.Logic.{◌⊎◌, inl, inr, ⊎_elim}

and_true : (b : Bool) → (b && true) ≡ b
and_true b = elim b as (λ z. (z && true) ≡ z) [ true ↦ refl | false ↦ refl ]

and_swap : (a b : Bool) → (a && b) ≡ (b && a)
and_swap a b = elim a as (λ z. (z && b) ≡ (b && z)) [ true ↦ sym (and_true b) | false ↦ elim b as (λ z. false ≡ (z && false)) [ true ↦ refl | false ↦ refl ] ]

pub all_reversed : {A : Type 0} (p : A → Bool) (xs : List A) → list_all p (reverse xs) ≡ list_all p xs
all_reversed p [] = refl
all_reversed p (x ∷ xs) =
    ap (list_all p) (reverse-append (x ∷ []) xs) ∙ list_all-append p (reverse xs) (x ∷ [])
    ∙ ap (λ z. z && (p x && true)) (all_reversed p xs) ∙ ap (λ z. list_all p xs && z) (and_true (p x)) ∙ and_swap (list_all p xs) (p x)

pub reversed_more : {A : Type 0} (xs : List A) (x : A) → reverse (xs ++ x ∷ []) ≡ x ∷ reverse xs
reversed_more xs x = reverse-append xs (x ∷ [])

-- a list has no element, or a last one
last_of : {A : Type 0} (xs : List A) → (xs ≡ []) ⊎ ((ys : List A) × (x : A) × (xs ≡ ys ++ x ∷ []))
last_of [] = inl refl
last_of (x ∷ xs) = ⊎_elim
    (λ none. inr ([], x, ap (λ z. x ∷ z) none))
    (λ some. inr (x ∷ some.0, some.1, ap (λ z. x ∷ z) some.2))
    (last_of xs)

take-front : {A : Type 0} (xs ys : List A) → take (length xs) (xs ++ ys) ≡ xs
take-front [] ys = refl
take-front (x ∷ xs) ys = ap (λ z. x ∷ z) (take-front xs ys)

get_last : {A : Type 0} (ys : List A) (x : A) → slice_get (ys ++ x ∷ []) (length ys) ≡ slice_get (x ∷ []) 0
get_last [] x = refl
get_last (y ∷ ys) x = get_last ys x

pub first_reversed : {A : Type 0} (xs : List A) → slice_get (reverse xs) 0 ≡ slice_get xs (length xs - 1)
first_reversed xs = ⊎_elim
    (λ none. rw none refl)
    (λ some.
    let count : length (some.0 ++ some.1 ∷ []) - 1 ≡ length some.0 = omega (arith, length-append some.0 (some.1 ∷ [])) in
    rw some.2 (ap (λ z. slice_get z 0) (reversed_more some.0 some.1) ∙ sym (get_last some.0 some.1) ∙ ap (slice_get (some.0 ++ some.1 ∷ [])) (sym count)))
    (last_of xs)

pub reversed_changed : {A : Type 0} (xs : List A) (x : A) → 0 < length (reverse xs) → reverse (set xs (length xs - 1) x) ≡ x ∷ drop 1 (reverse xs)
reversed_changed xs x some = ⊎_elim
    (λ none. absurd (let empty : length (reverse xs) ≡ 0 = ap (λ z. length (reverse z)) none in omega arith))
    (λ last.
    let count : length (last.0 ++ last.1 ∷ []) - 1 ≡ length last.0 = omega (arith, length-append last.0 (last.1 ∷ [])) in
    ap (λ z. reverse (set z (length z - 1) x)) last.2
    ∙ ap (λ z. reverse (set (last.0 ++ last.1 ∷ []) z x)) count
    ∙ ap reverse (set-append_seam last.0 last.1 [] x)
    ∙ reversed_more last.0 x
    ∙ ap (λ z. x ∷ drop 1 z) (sym (ap reverse last.2 ∙ reversed_more last.0 last.1)))
    (last_of xs)

pub reversed_fewer : {A : Type 0} (xs ys : List A) (last : Option A) → xs ≡ ys ++ option_to_list last → (last ≡ None → ys ≡ []) → reverse ys ≡ drop 1 (reverse xs)
reversed_fewer xs ys None e none = let empty = none refl in ap (λ z. reverse z) empty ∙ ap (λ z. drop 1 (reverse z)) (sym (e ∙ ap (λ z. z ++ []) empty))
reversed_fewer xs ys (Some x) e none = sym (ap (λ z. drop 1 (reverse z)) e ∙ ap (drop 1) (reversed_more ys x))

fewer_reversed : {A : Type 0} (xs : List A) → reverse (take (length xs - 1) xs) ≡ drop 1 (reverse xs)
fewer_reversed xs = ⊎_elim
    (λ none. rw none refl)
    (λ last.
    let count : length (last.0 ++ last.1 ∷ []) - 1 ≡ length last.0 = omega (arith, length-append last.0 (last.1 ∷ [])) in
    rw last.2 (ap (λ z. reverse (take z (last.0 ++ last.1 ∷ []))) count ∙ ap reverse (take-front last.0 (last.1 ∷ [])) ∙ sym (ap (drop 1) (reversed_more last.0 last.1))))
    (last_of xs)

-- the order of the open conditions doesn't matter for what is read
pub read_reversed : (conditions : List Condition) → is_read (reverse conditions) ≡ is_read conditions
unfolding is_read
read_reversed conditions = all_reversed (λ c. is_taken c.branch) conditions

-- the conditions around the innermost
pub read_outside : (conditions : List Condition) → is_read (take (length conditions - 1) conditions) ≡ is_read (drop 1 (reverse conditions))
read_outside conditions = sym (read_reversed (take (length conditions - 1) conditions)) ∙ ap is_read (fewer_reversed conditions)
