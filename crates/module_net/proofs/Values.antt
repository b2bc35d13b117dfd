-- What stands beside names.
use Rattle.std.proofs.Common.{◌≡◌, ℕ, zero, suc, ◌+◌, ◌<◌, Bool, true, false, cond, List, [], ◌∷◌, length, map, get_or, Option, Some, None, refl, sym, ap, subst, ◌∙◌, arith, ltb, Bor}
use Rattle.std.specs.Prelude.{find, slice_get, is_some}
use Rattle.std.specs.Option.{option_map, option_copied, IfSome}
use Rattle.std.proofs.lemmas.Option.{slice_get_past}
use Rattle.std.proofs.lemmas.Bool.{ltb-true, ltb-false}
use Rattle.std.specs.List.{position_from}
use Rattle.std.specs.Str.{bytes_eq}
use Rattle.tern_core.specs.declared.tern.Tern.{Tern}
use Rattle.udp_table.specs.Table.{Table}
use Rattle.name_index.specs.Places.{place_of}
use Rattle.module_net.specs.Elements.{table_named}
use Rattle.module_net.specs.Outside.{value_of}

pub get_some : {X : Type 0} (xs : List X) (k : ℕ) (d : X) → k < length xs → slice_get xs k ≡ Some (get_or xs k d)
get_some [] k d h = absurd (omega arith)
get_some (x ∷ xs) zero d h = refl
get_some (x ∷ xs) (suc k) d h = get_some xs k d (omega arith)

module _ {X : Type 0} (f : X → List ℕ) where
  stands_from : (xs : List X) (name : List ℕ) (start k : ℕ) → position_from (bytes_eq name) start (map f xs) ≡ Some k
      → (j : ℕ) × (k ≡ start + j) × (j < length xs) × (find (λ x. bytes_eq name (f x)) xs ≡ slice_get xs j)
  stands_from [] name start k h = absurd cc
  stands_from (x ∷ xs) name start k h = go (bytes_eq name (f x)) h (stands_from xs name (start + 1) k)
    where
      go : (g : Bool) → cond g (Some start) (position_from (bytes_eq name) (start + 1) (map f xs)) ≡ Some k
          → (position_from (bytes_eq name) (start + 1) (map f xs) ≡ Some k → (j : ℕ) × (k ≡ start + 1 + j) × (j < length xs) × (find (λ x. bytes_eq name (f x)) xs ≡ slice_get xs j))
          → (j : ℕ) × (k ≡ start + j) × (j < length (x ∷ xs)) × (cond g (Some x) (find (λ x. bytes_eq name (f x)) xs) ≡ slice_get (x ∷ xs) j)
      go true e rest = (0, (let f : start ≡ k = cc in omega arith), omega arith, refl)
      go false e rest = let r = rest e in (suc r.0, (let f = r.1 in omega arith), (let f = r.2 in omega arith), r.3)

  -- the first item of a name stands where the name does
  pub stands : (xs : List X) (name : List ℕ) (k : ℕ) → place_of (map f xs) name ≡ Some k → (k < length xs) × (find (λ x. bytes_eq name (f x)) xs ≡ slice_get xs k)
  stands xs name k h =
      let r = stands_from xs name 0 k h in
      let e : r.0 ≡ k = (let f = r.1 in omega arith) in
      (subst (λ z. z < length xs) e r.2, r.3 ∙ ap (slice_get xs) e)

  absent_from : (xs : List X) (name : List ℕ) (start : ℕ) → position_from (bytes_eq name) start (map f xs) ≡ None → find (λ x. bytes_eq name (f x)) xs ≡ None
  absent_from [] name start h = refl
  absent_from (x ∷ xs) name start h = go (bytes_eq name (f x)) h (absent_from xs name (start + 1))
    where
      go : (g : Bool) → cond g (Some start) (position_from (bytes_eq name) (start + 1) (map f xs)) ≡ None
          → (position_from (bytes_eq name) (start + 1) (map f xs) ≡ None → find (λ x. bytes_eq name (f x)) xs ≡ None)
          → cond g (Some x) (find (λ x. bytes_eq name (f x)) xs) ≡ None
      go true e rest = absurd cc
      go false e rest = rest e

  pub absent : (xs : List X) (name : List ℕ) → place_of (map f xs) name ≡ None → find (λ x. bytes_eq name (f x)) xs ≡ None
  absent xs name h = absent_from xs name 0 h

pub stands_within : (values : List (List ℕ × Tern)) (names : List (List ℕ)) (name : List ℕ) (k : ℕ) → names ≡ map (λ s. s.0) values → place_of names name ≡ Some k → k < length values
stands_within values names name k e h = (stands (λ s. s.0) values name k (sym (ap (λ ns. place_of ns name) e) ∙ h)).0

pub first_value : (values : List (List ℕ × Tern)) (names : List (List ℕ)) (name : List ℕ) (k : ℕ) (v : List ℕ × Tern) → names ≡ map (λ s. s.0) values → place_of names name ≡ Some k → v ≡ get_or values k v → value_of values name ≡ Some v.1
first_value values names name k v n h g =
    let r = stands (λ s. s.0) values name k (sym (ap (λ ns. place_of ns name) n) ∙ h) in
    ap (option_map (λ s. s.1)) (r.1 ∙ get_some values k v r.0) ∙ ap (λ z. Some z.1) (sym g)

pub no_value : (values : List (List ℕ × Tern)) (names : List (List ℕ)) (name : List ℕ) → names ≡ map (λ s. s.0) values → place_of names name ≡ None → value_of values name ≡ None
no_value values names name n h = ap (option_map (λ s. s.1)) (absent (λ s. s.0) values name (sym (ap (λ ns. place_of ns name) n) ∙ h))

pub no_table : (tables : List Table) (names : List (List ℕ)) (name : List ℕ) → names ≡ map (λ t. t.name) tables → place_of names name ≡ None → table_named tables name ≡ None
no_table tables names name n h = absent (λ t. t.name) tables name (sym (ap (λ ns. place_of ns name) n) ∙ h)

pub first_table : (tables : List Table) (names : List (List ℕ)) (name : List ℕ) (k : ℕ) → names ≡ map (λ t. t.name) tables → place_of names name ≡ Some k → table_named tables name ≡ slice_get tables k
first_table tables names name k n h = (stands (λ t. t.name) tables name k (sym (ap (λ ns. place_of ns name) n) ∙ h)).1

-- what `get` of a slice gives
pub got : {X : Type 0} (xs : List X) (k : ℕ) (r : Option (Bor X)) → is_some r ≡ ltb k (length xs) → IfSome r (λ x. x.now ≡ get_or xs k x.now) → option_copied r ≡ slice_get xs k
got xs k None e h = sym (slice_get_past xs k (ltb-false k (length xs) (sym e)))
got xs k (Some x) e h = ap Some h ∙ sym (get_some xs k x.now (ltb-true k (length xs) (sym e)))
