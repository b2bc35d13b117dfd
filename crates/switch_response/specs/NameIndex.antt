-- The places of names, as the index of names knows them.
use Rattle.std.specs.Prelude.{◌≡◌, ℕ, Bool, true, false, cond, List, Option, Some, None, IsSome}
use Rattle.std.specs.List.{position_from}
use Rattle.std.specs.Str.{bytes_eq}
use Rattle.std.specs.Ordering.{nat_cmp}
use Rattle.std.specs.Cmp.Lexicographic.{slice_cmp}
use Rattle.std.specs.BTreeMap.{get_by}
use Rattle.switch_response.specs.declared.name_index.NameIndex.{NameIndex}

-- what the index has at a name
abbrev pub found : NameIndex → List ℕ → Option ℕ
found index name = get_by (λ k. slice_cmp nat_cmp name k.items) index.places

-- The index after a place was given to a name, and whether the name had none before. A name that has a place keeps it.
abbrev pub Adds : NameIndex → NameIndex → List ℕ → ℕ → Bool → Type 0
Adds old new name place true = (found old name ≡ None) × ((q : List ℕ) → found new q ≡ cond (bytes_eq name q) (Some place) (found old q))
Adds old new name place false = IsSome (found old name) × ((q : List ℕ) → found new q ≡ found old q)

-- the first place at which a name stands
abbrev pub place_of : List (List ℕ) → List ℕ → Option ℕ
place_of names name = position_from (bytes_eq name) 0 names

-- the index has the first place of each name
abbrev pub IsIndexOf : List (List ℕ) → NameIndex → Type 0
IsIndexOf names index = (q : List ℕ) → found index q ≡ place_of names q
