-- An index of names, when a name comes.
use Rattle.std.proofs.Common.{◌≡◌, ℕ, cond, List, [], ◌∷◌, ◌++◌, length, Some, None, sym, ◌∙◌, ap, subst}
use Rattle.std.specs.Prelude.{IsSome}
use Rattle.std.specs.Str.{bytes_eq}
use Rattle.name_index.specs.declared.first_places.FirstPlaces.{FirstPlaces}
use Rattle.name_index.specs.Held.{found, IsIndexOf}
use Rattle.name_index.proofs.Places.{place_known, place_new}

-- a name that came again
pub index_known : (names : List (List ℕ)) (index : FirstPlaces) (name : List ℕ) → IsSome (found index name) → IsIndexOf names index → IsIndexOf (names ++ name ∷ []) index
index_known names index name known held q = held q ∙ sym (place_known names name q (subst IsSome (held name) known))

-- a new name
pub index_new : (names : List (List ℕ)) (old new : FirstPlaces) (name : List ℕ) → found old name ≡ None
    → ((q : List ℕ) → found new q ≡ cond (bytes_eq name q) (Some (length names)) (found old q)) → IsIndexOf names old → IsIndexOf (names ++ name ∷ []) new
index_new names old new name absent given held q =
    given q ∙ ap (cond (bytes_eq name q) (Some (length names))) (held q) ∙ sym (place_new names name q (sym (held name) ∙ absent))
