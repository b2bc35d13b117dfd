-- Places in lists of names.
use Rattle.std.proofs.Common.{◌≡◌, ℕ, zero, suc, ◌+◌, ◌<◌, Bool, true, false, cond, List, [], ◌∷◌, ◌++◌, length, Option, Some, None, refl, sym, ◌∙◌, ap, subst, arith}
use Rattle.std.specs.Prelude.{is_some, IsSome, slice_get, ◌||◌}
use Rattle.std.specs.List.{list_any, position_from}
use Rattle.std.specs.Option.{option_or}
use Rattle.std.specs.Str.{bytes_eq}
use Rattle.std.specs.Cmp.Lexicographic.{bytes_decides, nat_list_eq_equiv}
use Rattle.name_index.specs.Places.{place_of, is_known}

module _ {X : Type 0} (p : X → Bool) where
  first_or : (b : Bool) (i : ℕ) (a o rest : Option ℕ) → a ≡ option_or o rest → cond b (Some i) a ≡ option_or (cond b (Some i) o) rest
  first_or true i a o rest h = refl
  first_or false i a o rest h = h

  -- one item more
  position_more : (i : ℕ) (xs : List X) (x : X) → position_from p i (xs ++ x ∷ []) ≡ option_or (position_from p i xs) (cond (p x) (Some (i + length xs)) None)
  position_more i [] x = let e : i ≡ i + 0 = omega arith in ap (λ k. cond (p x) (Some k) None) e
  position_more i (y ∷ ys) x =
      let e : i + 1 + length ys ≡ i + length (y ∷ ys) = omega arith in
      first_or (p y) i _ _ _ (position_more (i + 1) ys x ∙ ap (λ k. option_or (position_from p (i + 1) ys) (cond (p x) (Some k) None)) e)

  some_any : (b c : Bool) (i : ℕ) (o : Option ℕ) → is_some o ≡ c → is_some (cond b (Some i) o) ≡ (b || c)
  some_any true c i o h = refl
  some_any false c i o h = h

  position_any : (i : ℕ) (xs : List X) → is_some (position_from p i xs) ≡ list_any p xs
  position_any i [] = refl
  position_any i (y ∷ ys) = some_any (p y) (list_any p ys) i _ (position_any (i + 1) ys)

  found_at : (b : Bool) (i k : ℕ) (y : X) (ys : List X) (o : Option ℕ) → p y ≡ b → cond b (Some i) o ≡ Some k
      → (o ≡ Some k → (j : ℕ) × (k ≡ i + 1 + j) × ((x : X) → slice_get ys j ≡ Some x → p x ≡ true) × (j < length ys))
      → (j : ℕ) × (k ≡ i + j) × ((x : X) → slice_get (y ∷ ys) j ≡ Some x → p x ≡ true) × (j < length (y ∷ ys))
  found_at true i k y ys o t h rest = (0, (let e : i ≡ k = cc in omega arith), (λ x g. let e : y ≡ x = cc in subst (λ x. p x ≡ true) e t), omega arith)
  found_at false i k y ys o t h rest = let r = rest h in (suc r.0, (let e = r.1 in omega arith), r.2, (let e = r.3 in omega arith))

  -- where the first one stands
  position_at : (i k : ℕ) (xs : List X) → position_from p i xs ≡ Some k → (j : ℕ) × (k ≡ i + j) × ((x : X) → slice_get xs j ≡ Some x → p x ≡ true) × (j < length xs)
  position_at i k [] h = absurd (cc)
  position_at i k (y ∷ ys) h = found_at (p y) i k y ys (position_from p (i + 1) ys) refl h (position_at (i + 1) k ys)

-- a name is known where it has a place
pub known_by_place : (names : List (List ℕ)) (q : List ℕ) → is_some (place_of names q) ≡ is_known q names
known_by_place names q = position_any (bytes_eq q) 0 names

get_within : {X : Type 0} (xs : List X) (k : ℕ) → k < length xs → (x : X) × (slice_get xs k ≡ Some x)
get_within [] k h = absurd (omega arith)
get_within (x ∷ xs) zero h = (x, refl)
get_within (x ∷ xs) (suc k) h = get_within xs k (omega arith)

-- a name stands at its place
pub stands_at_place : (names : List (List ℕ)) (q : List ℕ) (k : ℕ) → place_of names q ≡ Some k → slice_get names k ≡ Some q
stands_at_place names q k h =
    let r = position_at (bytes_eq q) 0 k names h in
    let g = get_within names r.0 r.3 in
    let same : q ≡ g.0 = (bytes_decides q g.0).0 (r.2 g.0 g.1) in
    let place : k ≡ r.0 = (let e = r.1 in omega arith) in
    subst (λ j. slice_get names j ≡ Some q) (sym place) (g.1 ∙ ap Some (sym same))

pub place_within : (names : List (List ℕ)) (q : List ℕ) (k : ℕ) → place_of names q ≡ Some k → k < length names
place_within names q k h = let r = position_at (bytes_eq q) 0 k names h in let e = r.1 in let f = r.3 in omega arith

-- One name more

pub place_more : (names : List (List ℕ)) (name q : List ℕ) → place_of (names ++ name ∷ []) q ≡ option_or (place_of names q) (cond (bytes_eq q name) (Some (length names)) None)
place_more names name q =
    let e : 0 + length names ≡ length names = omega arith in
    position_more (bytes_eq q) 0 names name ∙ ap (λ k. option_or (place_of names q) (cond (bytes_eq q name) (Some k) None)) e

kept_at : (b : Bool) (o : Option ℕ) (n : ℕ) → (b ≡ true → IsSome o) → option_or o (cond b (Some n) None) ≡ o
kept_at b (Some k) n h = refl
kept_at false None n h = refl
kept_at true None n h = absurd (let e : false ≡ true = h refl in cc)

fresh_at : (b : Bool) (o : Option ℕ) (n : ℕ) → (b ≡ true → o ≡ None) → option_or o (cond b (Some n) None) ≡ cond b (Some n) o
fresh_at true o n h = ap (λ o. option_or o (Some n)) (h refl)
fresh_at false None n h = refl
fresh_at false (Some k) n h = refl

-- a name that came again leaves every place
pub place_known : (names : List (List ℕ)) (name q : List ℕ) → IsSome (place_of names name) → place_of (names ++ name ∷ []) q ≡ place_of names q
place_known names name q known =
    place_more names name q
    ∙ kept_at (bytes_eq q name) (place_of names q) (length names) (λ t. subst (λ q. IsSome (place_of names q)) (sym ((bytes_decides q name).0 t)) known)

-- a new name has the last place
pub place_new : (names : List (List ℕ)) (name q : List ℕ) → place_of names name ≡ None → place_of (names ++ name ∷ []) q ≡ cond (bytes_eq name q) (Some (length names)) (place_of names q)
place_new names name q h =
    place_more names name q
    ∙ fresh_at (bytes_eq q name) (place_of names q) (length names) (λ t. subst (λ q. place_of names q ≡ None) (sym ((bytes_decides q name).0 t)) h)
    ∙ ap (λ b. cond b (Some (length names)) (place_of names q)) (nat_list_eq_equiv.symm q name)
