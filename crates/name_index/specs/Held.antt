-- How names are held: in order, and past 16 names beside an index of their first places.
use Rattle.std.specs.Prelude.{◌≡◌, ◌<◌, ◌≤◌, ℕ, List, length, Option, Some, None}
use Rattle.std.specs.Ordering.{nat_cmp}
use Rattle.std.specs.Cmp.Lexicographic.{slice_cmp}
use Rattle.std.specs.BTreeMap.{get_by}
use Rattle.name_index.specs.Places.{place_of}
use Rattle.name_index.specs.declared.first_places.FirstPlaces.{FirstPlaces}

-- the place that the index has for the name
abbrev pub found : FirstPlaces → List ℕ → Option ℕ
found index name = get_by (λ k. slice_cmp nat_cmp name k.items) index.places

-- The index gives each name its first place, and no place to others.
abbrev pub IsIndexOf : List (List ℕ) → FirstPlaces → Type 0
IsIndexOf names index = (q : List ℕ) → found index q ≡ place_of names q

-- Names have an index when they are more than 16, and it is theirs.
abbrev pub IsHeldBy : List (List ℕ) → Option FirstPlaces → Type 0
IsHeldBy names (Some index) = (16 < length names) × IsIndexOf names index
IsHeldBy names None = length names ≤ 16
