-- What is told last of a pin.
use Rattle.std.proofs.Common.{◌≡◌, ◌<◌, ◌+◌, ◌-◌, ◌++◌, ℕ, suc, Bool, true, false, cond, List, [], ◌∷◌, length, drop, map, get_or, Option, Some, None, refl, sym, ap, ◌∙◌, arith}
use Rattle.std.specs.Prelude.{option_map}
use Rattle.std.specs.List.{position_from}
use Rattle.std.specs.Str.{bytes_eq}
use Rattle.std.proofs.Common.{◌≤◌}
use Rattle.std.proofs.Math.ListN.{drop_of_length-le}
use Rattle.std.proofs.lemmas.List.{drop_more, map-append}
use Rattle.text_scan.specs.declared.pins.Direction.{Direction}
use Rattle.name_index.specs.Places.{place_of}
use Rattle.cdl_reader.specs.Pins.{IsLastFirst, direction_at, direction_of, first_told, flipped, told_pin, told_direction}

later : {X : Type 0} (t : X → Bool) (i : ℕ) (xs : List X) → position_from t (i + 1) xs ≡ option_map suc (position_from t i xs)
later t i [] = refl
later t i (x ∷ xs) = go (t x) (later t (i + 1) xs)
  where
    go : (g : Bool) → position_from t (i + 1 + 1) xs ≡ option_map suc (position_from t (i + 1) xs)
        → cond g (Some (i + 1)) (position_from t (i + 1 + 1) xs) ≡ option_map suc (cond g (Some i) (position_from t (i + 1) xs))
    go true h = ap Some (omega arith)
    go false h = h

moved_on : (d : Direction) (ds : List Direction) (o : Option ℕ) → direction_at (d ∷ ds) (option_map suc o) ≡ direction_at ds o
moved_on d ds None = refl
moved_on d ds (Some p) = refl

-- the direction at the first place of a pin is what is told of it first
at_first_place : (pin : List ℕ) (ts : List (List ℕ × Direction)) → direction_at (map told_direction ts) (place_of (map told_pin ts) pin) ≡ first_told pin ts
unfolding first_told
at_first_place pin [] = refl
at_first_place pin (t ∷ ts) = go (bytes_eq pin t.0) (at_first_place pin ts)
  where
    go : (g : Bool) → direction_at (map told_direction ts) (place_of (map told_pin ts) pin) ≡ first_told pin ts
        → direction_at (t.1 ∷ map told_direction ts) (cond g (Some 0) (position_from (bytes_eq pin) 1 (map told_pin ts))) ≡ cond g t.1 (first_told pin ts)
    go true h = refl
    go false h = ap (direction_at (t.1 ∷ map told_direction ts)) (later (bytes_eq pin) 0 (map told_pin ts)) ∙ moved_on t.1 (map told_direction ts) (place_of (map told_pin ts) pin) ∙ h

pub told_last : (told : List (List ℕ × Direction)) (ns : List (List ℕ)) (ds : List Direction) (pin : List ℕ) → IsLastFirst told ns ds → direction_at ds (place_of ns pin) ≡ direction_of told pin
unfolding direction_of
told_last told ns ds pin h = rw (h.names, h.directions) (at_first_place pin (flipped told))

-- one more from the end
pub flipped_more : {X : Type 0} (told : List (List ℕ × Direction)) (f : List ℕ × Direction → X) (n i : ℕ) (d : List ℕ × Direction) → n ≡ length told → i < n
    → map f (flipped (drop (n - (i + 1)) told)) ≡ map f (flipped (drop (n - i) told)) ++ f (get_or told (n - 1 - i) d) ∷ []
unfolding flipped
flipped_more told f n i d e h =
    let here : n - (i + 1) ≡ n - 1 - i = omega arith in
    let after : n - 1 - i + 1 ≡ n - i = omega arith in
    let less : n - 1 - i < length told = omega arith in
    rw (here, drop_more told (n - 1 - i) d less, after) (map-append f (flipped (drop (n - i) told)) (get_or told (n - 1 - i) d ∷ []))

pub flipped_none : {X : Type 0} (told : List (List ℕ × Direction)) (f : List ℕ × Direction → X) → map f (flipped (drop (length told - 0) told)) ≡ []
unfolding flipped
flipped_none told f = let e : length told ≤ length told - 0 = omega arith in rw (drop_of_length-le told e) refl

-- what was kept of the last ones, with one before them
pub kept_more : {X : Type 0} (told : List (List ℕ × Direction)) (f : List ℕ × Direction → X) (n i : ℕ) (d : List ℕ × Direction) (old new : List X) (x : X) → n ≡ length told → i < n
    → old ≡ map f (flipped (drop (n - i) told)) → new ≡ old ++ x ∷ [] → x ≡ f d → d ≡ get_or told (n - 1 - i) d → new ≡ map f (flipped (drop (n - (i + 1)) told))
kept_more told f n i d old new x e h o a y g =
    a ∙ ap (λ z. z ++ x ∷ []) o ∙ ap (λ z. map f (flipped (drop (n - i) told)) ++ z ∷ []) (y ∙ ap f g) ∙ sym (flipped_more told f n i d e h)
