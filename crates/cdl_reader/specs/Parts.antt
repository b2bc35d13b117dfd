-- What is read of a subcircuit.
use Rattle.std.specs.Prelude.{[], ◌∷◌, ◌++◌, Option, Some, None}
use Rattle.circuit.specs.declared.netlist.Transistor.{Transistor}
use Rattle.circuit.specs.declared.netlist.SubcircuitPart.{SubcircuitPart}
use Rattle.circuit.specs.declared.netlist.SubcircuitPart.TheVariants as parts
use Rattle.cdl_cards.specs.Words.{PlacedWord}
use Rattle.cdl_cards.specs.Cards.{Card}
use Rattle.file_rules.specs.Names.{shown_word}
use Rattle.cdl_reader.specs.Pins.{directed}
use Rattle.cdl_reader.specs.declared.part.Construct.{Construct}
use Rattle.cdl_reader.specs.declared.part.Part.{Part}

abbrev pub no_part : Part
no_part = record { name = []; pins = []; told = []; transistors = []; refusal = None }

-- a word that is refused
abbrev pub construct_of : PlacedWord → Construct
construct_of w = record { card = shown_word w.bytes; line = w.line }

abbrev pub refused_at : PlacedWord → Part → Part
refused_at w p = record p { refusal = Some (construct_of w) }

-- the transistor of a card of six words or more; the fifth is its bulk
abbrev pub transistor_of : Card → Option Transistor
transistor_of (name ∷ drain ∷ gate ∷ source ∷ bulk ∷ model ∷ rest) =
    Some (record { name = name.bytes; drain = drain.bytes; gate = gate.bytes; source = source.bytes; model = model.bytes })
transistor_of _ = None

abbrev pub with_transistor : Option Transistor → Part → Part
with_transistor None p = p
with_transistor (Some t) p = record p { transistors = p.transistors ++ t ∷ [] }

abbrev pub made_by : Part → Option Construct → SubcircuitPart
made_by p None = parts.Whole (record { name = p.name; pins = directed p.told p.pins; transistors = p.transistors })
made_by p (Some c) = parts.Refused p.name c.card c.line

-- the subcircuit that was read
abbrev pub made : Part → SubcircuitPart
made p = made_by p p.refusal
