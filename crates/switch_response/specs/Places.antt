use Rattle.std.specs.Prelude.{◌≡◌, ℕ, ◌+◌, ◌<◌, ◌^◌, ◌&&◌, Bool, List, ◌++◌, length, Some, slice_get}
use Rattle.std.specs.List.{position_from}
use Rattle.switch_response.specs.declared.name_index.NameIndex.{NameIndex}
use Rattle.switch_response.specs.declared.naming.Place.{Place}
use Rattle.switch_response.specs.declared.naming.Place.TheVariants.{Storage, Input}
use Rattle.circuit.specs.declared.netlist.Transistor.{Transistor as Card}
use Rattle.circuit.specs.declared.tech.ModelCard.{ModelCard}
use Rattle.circuit.specs.declared.tech.Size.{Size}
use Rattle.std.specs.Str.{bytes_eq}
use Rattle.switch_response.specs.declared.naming.Ends.{Ends}
use Rattle.switch_response.specs.NameIndex.{found}
use Rattle.switch_response.specs.Wiring.{firsts, model_of}

-- the index has the first place in a list at which the test finds each name
abbrev pub Indexes : {X : Type 0} → (List ℕ → X → Bool) → List X → NameIndex → Type 0
Indexes test xs index = (q : List ℕ) → found index q ≡ position_from (test q) 0 xs

-- the name stands at this place of the storage nodes, or of the input nodes
abbrev pub IsPlaceOf : List (List ℕ) → List (List ℕ) → List ℕ → Place → Type 0
IsPlaceOf storage inputs name (Storage k) = slice_get storage k ≡ Some name
IsPlaceOf storage inputs name (Input k) = slice_get inputs k ≡ Some name

-- The names of storage nodes, after more names: those that are new stand at the end, in their order.
abbrev pub Grows : List (List ℕ) → List (List ℕ) → List (List ℕ) → List (List ℕ) → Type 0
Grows inputs old more new = new ≡ old ++ firsts (inputs ++ old) more

pub record AreEndsOf (storage inputs : List (List ℕ)) (card : Card) (ends : Ends) : Type 0 where
  pub drain : IsPlaceOf storage inputs card.drain ends.drain
  pub gate : IsPlaceOf storage inputs card.gate ends.gate
  pub source : IsPlaceOf storage inputs card.source ends.source

-- the ends of each card, in their order
abbrev pub AreAllEnds : List (List ℕ) → List (List ℕ) → List Card → List Ends → Type 0
AreAllEnds storage inputs cards ends =
    (k : ℕ) (card : Card) (e : Ends) → slice_get cards k ≡ Some card → slice_get ends k ≡ Some e → AreEndsOf storage inputs card e

-- a node's number: storage nodes first, then input nodes
abbrev pub number_of : ℕ → Place → ℕ
number_of storage (Storage k) = k
number_of storage (Input k) = storage + k

pub record HasNumbers (storage : ℕ) (ends : Ends) : Type 0 where
  pub drain : number_of storage ends.drain < 2 ^ 64
  pub gate : number_of storage ends.gate < 2 ^ 64
  pub source : number_of storage ends.source < 2 ^ 64

-- the place of a card's model among the models
pub record IsModelAt (models : List ModelCard) (card : Card) (place : ℕ) : Type 0 where
  pub within : place < length models
  pub model : model_of models card.model ≡ slice_get models place

abbrev pub AreModels : List ModelCard → List Card → List ℕ → Type 0
AreModels models cards places = (k : ℕ) (card : Card) (place : ℕ) → slice_get cards k ≡ Some card → slice_get places k ≡ Some place → IsModelAt models card place

abbrev pub is_named : List ℕ → ModelCard → Bool
is_named name model = bytes_eq name model.name

abbrev pub is_size_of : List ℕ → List ℕ → Size → Bool
is_size_of cell node size = bytes_eq cell size.cell && bytes_eq node size.node
