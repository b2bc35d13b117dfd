-- What a netlist holds that was read of a text: names, and words that can be shown.
use Rattle.std.specs.Prelude.{◌≡◌, ◌≤◌, ℕ, Bool, true, false, ◌&&◌, List, length, map}
use Rattle.std.specs.List.{list_all}
use Rattle.text_scan.specs.declared.limits.Limits.{Limits}
use Rattle.text_scan.specs.declared.pins.Direction.{Direction}
use Rattle.text_scan.specs.declared.pins.Direction.TheVariants.{Input, Output, Inout, Absent}
use Rattle.file_rules.specs.Names.{is_name_within, is_distinct, is_shown}
use Rattle.circuit.specs.declared.netlist.Netlist.{Netlist}
use Rattle.circuit.specs.declared.netlist.Subcircuit.{Subcircuit}
use Rattle.circuit.specs.declared.netlist.SubcircuitPart.{SubcircuitPart}
use Rattle.circuit.specs.declared.netlist.SubcircuitPart.TheVariants.{Whole, Refused}
use Rattle.circuit.specs.declared.netlist.Transistor.{Transistor}

abbrev pub subcircuit_name : SubcircuitPart → List ℕ
subcircuit_name (Whole s) = s.name
subcircuit_name (Refused name card line) = name

abbrev pub is_told_direction : Direction → Bool
is_told_direction Input = true
is_told_direction Output = true
is_told_direction Inout = true
is_told_direction Absent = true
is_told_direction _ = false

abbrev pub is_pin : Limits → (List ℕ × Direction) → Bool
is_pin limits p = is_name_within limits p.0 && is_told_direction p.1

abbrev pub is_transistor : Limits → Transistor → Bool
is_transistor limits t =
    is_name_within limits t.name && is_name_within limits t.drain && is_name_within limits t.gate
    && is_name_within limits t.source && is_name_within limits t.model

abbrev pub is_subcircuit : Limits → Subcircuit → Bool
is_subcircuit limits s =
    is_name_within limits s.name && list_all (is_pin limits) s.pins && list_all (is_transistor limits) s.transistors

abbrev pub is_part : Limits → SubcircuitPart → Bool
is_part limits (Whole s) = is_subcircuit limits s
is_part limits (Refused name card line) = is_name_within limits name && is_shown card

-- Each name is a name within the limit, no subcircuit has the name of another, and each is read whole or refused with a
-- word that can be shown.
pub record IsNetlist (limits : Limits) (netlist : Netlist) : Type 0 where
  pub few : length netlist.parts ≤ limits.cells
  pub parts : list_all (is_part limits) netlist.parts ≡ true
  pub distinct : is_distinct (map subcircuit_name netlist.parts) ≡ true
