use Rattle.std.specs.Prelude.{◌≡◌, ℕ, ◌<◌, List, length, min, Some, None}
use Rattle.circuit.specs.declared.netlist.Subcircuit.{Subcircuit}
use Rattle.circuit.specs.declared.netlist.Transistor.{Transistor as Card}
use Rattle.circuit.specs.declared.tech.ModelCard.{ModelCard}
use Rattle.circuit.specs.declared.tech.Supply.{Supply}
use Rattle.circuit.specs.declared.tech.Tech.{Tech}
use Rattle.switch_response.specs.declared.building.NetRefusal.{NetRefusal}
use Rattle.switch_response.specs.declared.building.NetRefusal.TheVariants.{SupplyShort, UnknownModel, TooManyNodes, NoMemory}
use Rattle.switch_response.specs.Wiring.{pin_names, storage_nodes, first_double, first_unknown, most_nodes}

-- Why a subcircuit is refused: the first of the three causes that applies, or want of memory.
abbrev pub IsCause : Subcircuit → Tech → List Supply → List (List ℕ) → NetRefusal → Type 0
IsCause part tech supplies inputs (SupplyShort name) = first_double (pin_names part) ≡ Some name
IsCause part tech supplies inputs (UnknownModel name) =
    (first_double (pin_names part) ≡ None) × (first_unknown tech.models part.transistors ≡ Some name)
IsCause part tech supplies inputs (TooManyNodes count) =
    (first_double (pin_names part) ≡ None) × (first_unknown tech.models part.transistors ≡ None) × (most_nodes < length (storage_nodes part inputs supplies))
    × (count ≡ min (length (storage_nodes part inputs supplies)) 4294967295)
IsCause part tech supplies inputs NoMemory = Unit {0}

-- why the models of cards aren't found
abbrev pub IsMissing : List ModelCard → List Card → NetRefusal → Type 0
IsMissing models cards (UnknownModel name) = first_unknown models cards ≡ Some name
IsMissing models cards NoMemory = Unit {0}
IsMissing models cards (SupplyShort name) = ⊥
IsMissing models cards (TooManyNodes count) = ⊥
