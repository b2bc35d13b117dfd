-- Lists of names, item by item.
use Rattle.std.proofs.Common.{◌≡◌, ℕ, zero, suc, ◌+◌, ◌<◌, ◌⊎◌, inl, inr, Bool, true, false, cond, List, [], ◌∷◌, ◌++◌, length, map, get_or, take, drop, Option, Some, None, refl, sym, ◌∙◌, ap, subst, append_assoc, arith}
use Rattle.std.specs.Prelude.{find, is_some, IsSome, slice_get, ◌||◌}
use Rattle.std.specs.List.{list_any, position_from}
use Rattle.std.specs.Option.{option_or}
use Rattle.std.specs.Str.{bytes_eq}
use Rattle.std.specs.Cmp.Lexicographic.{bytes_decides, nat_list_eq_equiv}
use Rattle.std.proofs.lemmas.List.{append-nil, take_more, map-append}
use Rattle.std.proofs.lemmas.List.Folds.{list_any-append}
use Rattle.switch_response.specs.declared.name_index.NameIndex.{NameIndex}
use Rattle.switch_response.specs.NameIndex.{found, Adds, place_of}
use Rattle.switch_response.specs.Wiring.{firsts, first_double}
use Rattle.switch_response.specs.Places.{Indexes, Grows}

-- Places

module _ {X : Type 0} (p : X → Bool) where
  first_or : (b : Bool) (i : ℕ) (a o rest : Option ℕ) → a ≡ option_or o rest → cond b (Some i) a ≡ option_or (cond b (Some i) o) rest
  first_or true i a o rest h = refl
  first_or false i a o rest h = h

  -- one item more
  pub position_more : (i : ℕ) (xs : List X) (x : X) → position_from p i (xs ++ x ∷ []) ≡ option_or (position_from p i xs) (cond (p x) (Some (i + length xs)) None)
  position_more i [] x = let e : i ≡ i + 0 = omega arith in ap (λ k. cond (p x) (Some k) None) e
  position_more i (y ∷ ys) x =
      let e : i + 1 + length ys ≡ i + length (y ∷ ys) = omega arith in
      first_or (p y) i _ _ _ (position_more (i + 1) ys x ∙ ap (λ k. option_or (position_from p (i + 1) ys) (cond (p x) (Some k) None)) e)

  some_any : (b c : Bool) (i : ℕ) (o : Option ℕ) → is_some o ≡ c → is_some (cond b (Some i) o) ≡ (b || c)
  some_any true c i o h = refl
  some_any false c i o h = h

  pub position_any : (i : ℕ) (xs : List X) → is_some (position_from p i xs) ≡ list_any p xs
  position_any i [] = refl
  position_any i (y ∷ ys) = some_any (p y) (list_any p ys) i _ (position_any (i + 1) ys)

  found_at : (b : Bool) (i k : ℕ) (y : X) (ys : List X) (o : Option ℕ) (f : Option X) → p y ≡ b → cond b (Some i) o ≡ Some k
      → (o ≡ Some k → (j : ℕ) × (k ≡ i + 1 + j) × (f ≡ slice_get ys j) × ((x : X) → slice_get ys j ≡ Some x → p x ≡ true) × (j < length ys))
      → (j : ℕ) × (k ≡ i + j) × (cond b (Some y) f ≡ slice_get (y ∷ ys) j) × ((x : X) → slice_get (y ∷ ys) j ≡ Some x → p x ≡ true) × (j < length (y ∷ ys))
  found_at true i k y ys o f t h rest = (0, (let e : i ≡ k = cc in omega arith), refl, (λ x g. let e : y ≡ x = cc in subst (λ x. p x ≡ true) e t), omega arith)
  found_at false i k y ys o f t h rest = let r = rest h in (suc r.0, (let e = r.1 in omega arith), r.2, r.3, (let e = r.4 in omega arith))

  -- where the first one stands
  pub position_at : (i k : ℕ) (xs : List X) → position_from p i xs ≡ Some k → (j : ℕ) × (k ≡ i + j) × (find p xs ≡ slice_get xs j) × ((x : X) → slice_get xs j ≡ Some x → p x ≡ true) × (j < length xs)
  position_at i k [] h = absurd (cc)
  position_at i k (y ∷ ys) h = found_at (p y) i k y ys (position_from p (i + 1) ys) (find p ys) refl h (position_at (i + 1) k ys)

  not_found : (b : Bool) (i : ℕ) (y : X) (o : Option ℕ) (f : Option X) → cond b (Some i) o ≡ None → (o ≡ None → f ≡ None) → cond b (Some y) f ≡ None
  not_found true i y o f h rest = absurd (cc)
  not_found false i y o f h rest = rest h

  pub position_none : (i : ℕ) (xs : List X) → position_from p i xs ≡ None → find p xs ≡ None
  position_none i [] h = refl
  position_none i (y ∷ ys) h = not_found (p y) i y (position_from p (i + 1) ys) (find p ys) h (position_none (i + 1) ys)

pub get_within : {X : Type 0} (xs : List X) (k : ℕ) → k < length xs → (x : X) × (slice_get xs k ≡ Some x)
get_within [] k h = absurd (omega arith)
get_within (x ∷ xs) zero h = (x, refl)
get_within (x ∷ xs) (suc k) h = get_within xs k (omega arith)

pub get_front : {X : Type 0} (xs ys : List X) (k : ℕ) (x : X) → slice_get xs k ≡ Some x → slice_get (xs ++ ys) k ≡ Some x
get_front [] ys k x h = absurd (cc)
get_front (y ∷ xs) ys zero x h = h
get_front (y ∷ xs) ys (suc k) x h = get_front xs ys k x h

pub get_back : {X : Type 0} (xs ys : List X) (k : ℕ) (x : X) → slice_get ys k ≡ Some x → slice_get (xs ++ ys) (length xs + k) ≡ Some x
get_back [] ys k x h = let e : k ≡ 0 + k = omega arith in subst (λ j. slice_get ys j ≡ Some x) e h
get_back (y ∷ xs) ys k x h = let e : suc (length xs + k) ≡ length (y ∷ xs) + k = omega arith in subst (λ j. slice_get (y ∷ xs ++ ys) j ≡ Some x) e (get_back xs ys k x h)

-- where a name was found, it stands
pub name_at : (names : List (List ℕ)) (q : List ℕ) (k : ℕ) → position_from (bytes_eq q) 0 names ≡ Some k → slice_get names k ≡ Some q
name_at names q k h =
    let r = position_at (bytes_eq q) 0 k names h in
    let g = get_within names r.0 r.4 in
    let same : q ≡ g.0 = (bytes_decides q g.0).0 (r.3 g.0 g.1) in
    let place : k ≡ r.0 = (let e = r.1 in omega arith) in
    subst (λ j. slice_get names j ≡ Some q) (sym place) (g.1 ∙ ap Some (sym same))

-- Indexes

module _ {X : Type 0} (test : List ℕ → X → Bool) where
  passed_by : (b : Bool) (o : Option ℕ) (n : ℕ) → b ≡ false → option_or o (cond b (Some n) None) ≡ o
  passed_by true o n h = absurd (cc)
  passed_by false None n h = refl
  passed_by false (Some k) n h = refl

  -- an item that the test finds at no name
  pub passed : (xs : List X) (x : X) (index : NameIndex) → ((q : List ℕ) → test q x ≡ false) → Indexes test xs index → Indexes test (xs ++ x ∷ []) index
  passed xs x index none h q = h q ∙ sym (position_more (test q) 0 xs x ∙ passed_by (test q x) (position_from (test q) 0 xs) _ (none q))

  kept_at : (b : Bool) (o : Option ℕ) (n : ℕ) → (b ≡ true → IsSome o) → option_or o (cond b (Some n) None) ≡ o
  kept_at b (Some k) n h = refl
  kept_at false None n h = refl
  kept_at true None n h = absurd (let e : false ≡ true = h refl in cc)

  fresh_at : (b : Bool) (o : Option ℕ) (n : ℕ) → (b ≡ true → o ≡ None) → option_or o (cond b (Some n) None) ≡ cond b (Some n) o
  fresh_at true o n h = ap (λ o. option_or o (Some n)) (h refl)
  fresh_at false None n h = refl
  fresh_at false (Some k) n h = refl

  -- an item that the test finds at one name, which is given its place
  pub added : (xs : List X) (x : X) (name : List ℕ) (old new : NameIndex) (place : ℕ) (fresh : Bool) → place ≡ length xs → ((q : List ℕ) → test q x ≡ bytes_eq name q) → Indexes test xs old → Adds old new name place fresh → Indexes test (xs ++ x ∷ []) new
  added xs x name old new place true e at h a q =
      let n : 0 + length xs ≡ place = (omega arith) in
      a.1 q ∙ sym (position_more (test q) 0 xs x ∙ ap (λ b. option_or (position_from (test q) 0 xs) (cond b (Some (0 + length xs)) None)) (at q)
      ∙ ap (λ k. option_or (position_from (test q) 0 xs) (cond (bytes_eq name q) (Some k) None)) n
      ∙ ap (λ o. option_or o (cond (bytes_eq name q) (Some place) None)) (sym (h q))
      ∙ fresh_at (bytes_eq name q) (found old q) place (λ t. subst (λ q. found old q ≡ None) ((bytes_decides name q).0 t) a.0))
  added xs x name old new place false e at h a q =
      a.1 q ∙ sym (position_more (test q) 0 xs x ∙ ap (λ b. option_or (position_from (test q) 0 xs) (cond b (Some (0 + length xs)) None)) (at q)
      ∙ ap (λ o. option_or o (cond (bytes_eq name q) (Some (0 + length xs)) None)) (sym (h q))
      ∙ kept_at (bytes_eq name q) (found old q) (0 + length xs) (λ t. subst (λ q. IsSome (found old q)) ((bytes_decides name q).0 t) a.0))

pub eq_back : (a b : List ℕ) → bytes_eq a b ≡ bytes_eq b a
eq_back a b = nat_list_eq_equiv.symm a b

-- First appearances

abbrev pub firsts_by : Bool → List (List ℕ) → List ℕ → List (List ℕ) → List (List ℕ)
firsts_by b before y ys = cond b (firsts before ys) (y ∷ firsts (before ++ y ∷ []) ys)

firsts_step : (b : Bool) (before : List (List ℕ)) (y : List ℕ) (ys zs : List (List ℕ))
    → firsts before (ys ++ zs) ≡ firsts before ys ++ firsts (before ++ firsts before ys) zs
    → firsts (before ++ y ∷ []) (ys ++ zs) ≡ firsts (before ++ y ∷ []) ys ++ firsts ((before ++ y ∷ []) ++ firsts (before ++ y ∷ []) ys) zs
    → firsts_by b before y (ys ++ zs) ≡ firsts_by b before y ys ++ firsts (before ++ firsts_by b before y ys) zs
firsts_step true before y ys zs h g = h
firsts_step false before y ys zs h g =
    ap (λ xs. y ∷ xs) g ∙ ap (λ b. y ∷ firsts (before ++ y ∷ []) ys ++ firsts b zs) (append_assoc before (y ∷ []) (firsts (before ++ y ∷ []) ys))

-- more names
pub firsts_append : (before xs zs : List (List ℕ)) → firsts before (xs ++ zs) ≡ firsts before xs ++ firsts (before ++ firsts before xs) zs
firsts_append before [] zs = ap (λ b. firsts b zs) (sym (append-nil before))
firsts_append before (y ∷ ys) zs =
    firsts_step (list_any (bytes_eq y) before) before y ys zs (firsts_append before ys zs) (firsts_append (before ++ y ∷ []) ys zs)

-- Loops over lists, item by item

pub drop_at : {X Y : Type 0} (f : X → Y) (xs : List X) (i : ℕ) (x : X) → i < length xs → x ≡ get_or xs i x → drop i (map f xs) ≡ f x ∷ drop (suc i) (map f xs)
drop_at f [] i x lt e = absurd (omega arith)
drop_at f (y ∷ ys) zero x lt e = ap (λ z. f z ∷ map f ys) (sym e)
drop_at f (y ∷ ys) (suc i) x lt e = drop_at f ys i x (omega arith) e

pub get_at : {X Y : Type 0} (f : X → Y) (xs : List X) (i : ℕ) (x : X) → i < length xs → x ≡ get_or xs i x → slice_get (map f xs) i ≡ Some (f x)
get_at f [] i x lt e = absurd (omega arith)
get_at f (y ∷ ys) zero x lt e = ap (λ z. Some (f z)) (sym e)
get_at f (y ∷ ys) (suc i) x lt e = get_at f ys i x (omega arith) e

pub take_at : {X : Type 0} (xs : List X) (i : ℕ) (x : X) → i < length xs → x ≡ get_or xs i x → take (i + 1) xs ≡ take i xs ++ x ∷ []
take_at xs i x lt e = take_more xs i x lt ∙ ap (λ y. take i xs ++ y ∷ []) (sym e)

pub map_take_at : {X Y : Type 0} (f : X → Y) (xs : List X) (i : ℕ) (x : X) → i < length xs → x ≡ get_or xs i x → map f (take (i + 1) xs) ≡ map f (take i xs) ++ f x ∷ []
map_take_at f xs i x lt e = ap (map f) (take_at xs i x lt e) ∙ map-append f (take i xs) (x ∷ [])

-- Doubled names

abbrev pub IsSeen : List (List ℕ) → NameIndex → Type 0
IsSeen names index = (q : List ℕ) → is_some (found index q) ≡ list_any (bytes_eq q) names

some_or : (b : Bool) (n : ℕ) (o : Option ℕ) → is_some (cond b (Some n) o) ≡ (b || is_some o)
some_or true n o = refl
some_or false n o = refl

some_already : (b c : Bool) (o : Option ℕ) → (b ≡ true → IsSome o) → is_some o ≡ c → is_some o ≡ (b || c)
some_already false c o h e = e
some_already true c (Some n) h e = refl
some_already true c None h e = absurd (let e : false ≡ true = h refl in cc)

pub seen_more : (x : List ℕ) (rest whole : List (List ℕ)) (old new : NameIndex) (place : ℕ) (fresh : Bool) → whole ≡ x ∷ rest → IsSeen rest old → Adds old new x place fresh → IsSeen whole new
seen_more x rest whole old new place true e seen a q =
    ap is_some (a.1 q) ∙ some_or (bytes_eq x q) place (found old q) ∙ ap (λ b. b || is_some (found old q)) (eq_back x q) ∙ ap (λ b. bytes_eq q x || b) (seen q) ∙ ap (list_any (bytes_eq q)) (sym e)
seen_more x rest whole old new place false e seen a q =
    ap is_some (a.1 q) ∙ some_already (bytes_eq q x) (list_any (bytes_eq q) rest) (found old q) (λ t. subst (λ q. IsSome (found old q)) (sym ((bytes_decides q x).0 t)) a.0) (seen q) ∙ ap (list_any (bytes_eq q)) (sym e)

is_some_from : (o : Option ℕ) → IsSome o → is_some o ≡ true
is_some_from (Some n) h = refl
is_some_from None h = h

pub double_here : (x : List ℕ) (rest whole : List (List ℕ)) (old new : NameIndex) (place : ℕ) (fresh : Bool) → fresh ≡ false → whole ≡ x ∷ rest → IsSeen rest old → Adds old new x place fresh → first_double whole ≡ Some x
double_here x rest whole old new place true f e seen a = absurd (cc)
double_here x rest whole old new place false f e seen a =
    let any : list_any (bytes_eq x) rest ≡ true = sym (seen x) ∙ is_some_from (found old x) a.0 in
    ap first_double e ∙ ap (λ b. cond b (Some x) (first_double rest)) any

pub double_later : (x : List ℕ) (rest whole : List (List ℕ)) (old new : NameIndex) (place : ℕ) (fresh : Bool) → fresh ≡ true → whole ≡ x ∷ rest → IsSeen rest old → Adds old new x place fresh → first_double whole ≡ first_double rest
double_later x rest whole old new place false f e seen a = absurd (cc)
double_later x rest whole old new place true f e seen a =
    let none : list_any (bytes_eq x) rest ≡ false = sym (seen x) ∙ ap is_some a.0 in
    ap first_double e ∙ ap (λ b. cond b (Some x) (first_double rest)) none

-- Growing lists of names

-- more names, one after the other
pub grows_through : (before old more last mid new : List (List ℕ)) → Grows before old more mid → Grows before mid last new → Grows before old (more ++ last) new
grows_through before old more last mid new h g =
    g ∙ ap (λ m. m ++ firsts (before ++ m) last) h
    ∙ append_assoc old (firsts (before ++ old) more) (firsts (before ++ (old ++ firsts (before ++ old) more)) last)
    ∙ ap (λ b. old ++ (firsts (before ++ old) more ++ firsts b last)) (sym (append_assoc before old (firsts (before ++ old) more)))
    ∙ ap (λ xs. old ++ xs) (sym (firsts_append (before ++ old) more last))

pub grows_none : (before old : List (List ℕ)) → Grows before old [] old
grows_none before old = sym (append-nil old)

stands : (before names : List (List ℕ)) (x : List ℕ) → list_any (bytes_eq x) (before ++ names) ≡ true → Grows before names (x ∷ []) names
stands before names x h = sym (ap (λ b. names ++ cond b [] (x ∷ [])) h ∙ append-nil names)

-- a name that is among the input nodes
pub grows_input : (before names : List (List ℕ)) (x : List ℕ) (k : ℕ) → place_of before x ≡ Some k → Grows before names (x ∷ []) names
grows_input before names x k h =
    let any : list_any (bytes_eq x) before ≡ true = sym (position_any (bytes_eq x) 0 before) ∙ ap is_some h in
    stands before names x (list_any-append (bytes_eq x) before names ∙ ap (λ b. b || list_any (bytes_eq x) names) any)

or_true : (b : Bool) → (b || true) ≡ true
or_true true = refl
or_true false = refl

-- a name that is a storage node already
pub grows_known : (before names : List (List ℕ)) (x : List ℕ) (k : ℕ) → place_of names x ≡ Some k → Grows before names (x ∷ []) names
grows_known before names x k h =
    let any : list_any (bytes_eq x) names ≡ true = sym (position_any (bytes_eq x) 0 names) ∙ ap is_some h in
    stands before names x (list_any-append (bytes_eq x) before names ∙ ap (λ b. list_any (bytes_eq x) before || b) any ∙ or_true (list_any (bytes_eq x) before))

-- a new name
pub grows_new : (before names : List (List ℕ)) (x : List ℕ) → place_of before x ≡ None → place_of names x ≡ None → Grows before names (x ∷ []) (names ++ x ∷ [])
grows_new before names x h g =
    let outside : list_any (bytes_eq x) before ≡ false = sym (position_any (bytes_eq x) 0 before) ∙ ap is_some h in
    let fresh : list_any (bytes_eq x) names ≡ false = sym (position_any (bytes_eq x) 0 names) ∙ ap is_some g in
    let none : list_any (bytes_eq x) (before ++ names) ≡ false = list_any-append (bytes_eq x) before names ∙ ap (λ b. b || list_any (bytes_eq x) names) outside ∙ fresh in
    sym (ap (λ b. names ++ cond b [] (x ∷ [])) none)

-- a name that had no place gets one
pub adds_new : (old new : NameIndex) (names : List (List ℕ)) (x : List ℕ) (place : ℕ) (fresh : Bool) → place ≡ length names → Indexes bytes_eq names old → Adds old new x place fresh → Indexes bytes_eq (names ++ x ∷ []) new
adds_new old new names x place fresh e h a = added bytes_eq names x x old new place fresh e (λ q. eq_back q x) h a

pub get_push : {X : Type 0} (xs : List X) (x y : X) (k : ℕ) → slice_get (xs ++ x ∷ []) k ≡ Some y → (slice_get xs k ≡ Some y) ⊎ ((k ≡ length xs) × (x ≡ y))
get_push [] x y zero h = inr (refl, (cc))
get_push [] x y (suc k) h = absurd (cc)
get_push (z ∷ xs) x y zero h = inl h
get_push (z ∷ xs) x y (suc k) h = elim (get_push xs x y k h) [ inl g ↦ inl g | inr g ↦ inr ((let e = g.0 in omega arith), g.1) ]
