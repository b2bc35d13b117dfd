-- The four fields of a record as the code has them.
use Rattle.std.specs.Prelude.{ℕ, ◌≡◌, List, [], ◌∷◌, Option, None, Some}
use Rattle.tech_reader.specs.Fields.{kind_of}
use Rattle.tech_reader.specs.declared.fields.Fields.{Fields}
use Rattle.tech_reader.specs.declared.fields.Kind.{Kind}

-- the record that they are
abbrev pub row_of : Fields → List (List ℕ)
row_of f = f.kind.now ∷ f.name.now ∷ f.third.now ∷ f.last.now ∷ []

-- they are of this kind
abbrev pub IsOf : Kind → Fields → Type 0
IsOf kind f = kind_of f.kind.now ≡ Some kind

-- the item, if there is one
abbrev pub items_of : {X : Type 0} → Option X → List X
items_of None = []
items_of (Some x) = x ∷ []
