-- Nets by their names: each name stands at one place.
use Rattle.std.proofs.Common.{◌≡◌, ℕ, zero, suc, Bool, true, false, cond, ◌⊎◌, eqb, eqb-true, List, [], ◌∷◌, ◌++◌, length, Option, Some, None, inl, inr, refl, sym, ap, subst, ◌∙◌, arith}
use Rattle.std.specs.Prelude.{is_some, slice_get}
use Rattle.std.specs.Str.{bytes_eq}
use Rattle.std.specs.Cmp.Lexicographic.{bytes_decides}
use Rattle.std.proofs.lemmas.List.{append_assoc, append-nil}
use Rattle.std.proofs.lemmas.Grind.{common_steps}
use Rattle.name_index.specs.Places.{place_of, is_known}
use Rattle.name_index.proofs.Places.{known_by_place, stands_at_place, place_new}
use Rattle.module_net.specs.Naming.{firsts, or_zero, place_in}

-- a name that is known stands at its place
pub stands : (names : List (List ℕ)) (n : List ℕ) → is_known n names ≡ true → slice_get names (place_in names n) ≡ Some n
stands names n h = go (place_of names n) refl (known_by_place names n ∙ h)
  where
    go : (o : Option ℕ) → place_of names n ≡ o → is_some o ≡ true → slice_get names (or_zero o) ≡ Some n
    go (Some k) e s = stands_at_place names n k e
    go None e s = absurd cc

eqb_self : (k : ℕ) → eqb k k ≡ true
eqb_self k = grind (arith, common_steps)

bytes_self : (n : List ℕ) → bytes_eq n n ≡ true
bytes_self n = (bytes_decides n n).1 refl

-- two names that are known have one place only where they are equal
pub same_place : (names : List (List ℕ)) (n name : List ℕ) → is_known n names ≡ true → is_known name names ≡ true → eqb (place_in names n) (place_in names name) ≡ bytes_eq n name
same_place names n name h k = go (eqb (place_in names n) (place_in names name)) (bytes_eq n name) refl refl
  where
    go : (a b : Bool) → eqb (place_in names n) (place_in names name) ≡ a → bytes_eq n name ≡ b → a ≡ b
    go true true e f = refl
    go false false e f = refl
    go true false e f =
        let p : place_in names n ≡ place_in names name = eqb-true (place_in names n) (place_in names name) e in
        let s : Some n ≡ Some name = sym (stands names n h) ∙ ap (slice_get names) p ∙ stands names name k in
        let same : n ≡ name = cc in
        absurd (let g : false ≡ true = sym f ∙ ap (λ z. bytes_eq z name) same ∙ bytes_self name in cc)
    go false true e f =
        let same : n ≡ name = (bytes_decides n name).0 f in
        absurd (let g : false ≡ true = sym e ∙ ap (λ z. eqb (place_in names z) (place_in names name)) same ∙ eqb_self (place_in names name) in cc)

-- ---- each name stands once

abbrev pub AreApart : List (List ℕ) → Type 0
AreApart names = (k : ℕ) (n : List ℕ) → slice_get names k ≡ Some n → place_of names n ≡ Some k

get_split : (xs : List (List ℕ)) (x m : List ℕ) (k : ℕ) → slice_get (xs ++ x ∷ []) k ≡ Some m → (slice_get xs k ≡ Some m) ⊎ ((k ≡ length xs) × (m ≡ x))
get_split [] x m zero h = let e : m ≡ x = cc in inr (refl, e)
get_split [] x m (suc k) h = absurd cc
get_split (y ∷ ys) x m zero h = inl h
get_split (y ∷ ys) x m (suc k) h = elim (get_split ys x m k h) [
  | inl e ↦ inl e
  | inr e ↦ let p : suc k ≡ length (y ∷ ys) = (let f = e.0 in omega arith) in inr (p, e.1)
]

not_known : (names : List (List ℕ)) (n : List ℕ) → is_known n names ≡ false → place_of names n ≡ None
not_known names n h = go (place_of names n) refl (known_by_place names n ∙ h)
  where
    go : (o : Option ℕ) → place_of names n ≡ o → is_some o ≡ false → o ≡ None
    go None e s = refl
    go (Some k) e s = absurd (let f : true ≡ false = s in cc)

apart_more : (names : List (List ℕ)) (n : List ℕ) → is_known n names ≡ false → AreApart names → AreApart (names ++ n ∷ [])
apart_more names n h a k m g = elim (get_split names n m k g) [
  | inl e ↦ place_new names n m (not_known names n h) ∙ go (bytes_eq n m) refl (a k m e)
  | inr e ↦
      place_new names n m (not_known names n h)
      ∙ ap (λ z. cond z (Some (length names)) (place_of names m)) (ap (bytes_eq n) e.1 ∙ bytes_self n)
      ∙ ap Some (sym e.0)
]
  where
    go : (b : Bool) → bytes_eq n m ≡ b → place_of names m ≡ Some k → cond b (Some (length names)) (place_of names m) ≡ Some k
    go false e p = p
    go true e p =
        let same : n ≡ m = (bytes_decides n m).0 e in
        absurd (let f : None ≡ Some k = sym (not_known names n h) ∙ ap (place_of names) same ∙ p in cc)

apart_firsts : (known names : List (List ℕ)) → AreApart known → AreApart (known ++ firsts known names)
apart_firsts known [] a = subst AreApart (sym (append-nil known)) a
apart_firsts known (n ∷ names) a = go (is_known n known) refl (apart_firsts known names a) (λ e. apart_firsts (known ++ n ∷ []) names (apart_more known n e a))
  where
    go : (b : Bool) → is_known n known ≡ b → AreApart (known ++ firsts known names) → (is_known n known ≡ false → AreApart (known ++ n ∷ [] ++ firsts (known ++ n ∷ []) names))
        → AreApart (known ++ cond b (firsts known names) (n ∷ firsts (known ++ n ∷ []) names))
    go true e same more = same
    go false e same more = subst AreApart (append_assoc known (n ∷ []) (firsts (known ++ n ∷ []) names)) (more e)

none_apart : AreApart []
none_apart k n h = absurd cc

-- each name of the first places is at its own
pub first_place : (names : List (List ℕ)) (k : ℕ) (n : List ℕ) → slice_get (firsts [] names) k ≡ Some n → place_of (firsts [] names) n ≡ Some k
first_place names k n h = apart_firsts [] names none_apart k n h
