-- The pin tables of the four views.
use Rattle.std.specs.Prelude.{ℕ, Bool, true, false, if◌then◌else◌, is_some, List, [], ◌∷◌, ◌++◌, map, Option, Some, None}
use Rattle.std.specs.List.{flat_map, list_any}
use Rattle.text_scan.specs.declared.pins.Direction.{Direction}
use Rattle.text_scan.specs.declared.pins.Direction.TheVariants.{Internal, Absent}
use Rattle.text_scan.specs.declared.pins.PinKind.{PinKind}
use Rattle.text_scan.specs.declared.pins.PinKind.TheVariants.{Signal}
use Rattle.liberty_source.specs.declared.LibertyCell.{LibertyCell}
use Rattle.liberty_source.specs.declared.LibertyPin.{LibertyPin}
use Rattle.verilog_source.specs.declared.module.Module.{Module}
use Rattle.verilog_source.specs.declared.module.Port.{Port}
use Rattle.circuit.specs.declared.netlist.Subcircuit.{Subcircuit}
use Rattle.lef_source.specs.declared.Macro.{Macro}
use Rattle.lef_source.specs.declared.MacroPin.{MacroPin}
use Rattle.pin_tables.specs.declared.table.Pin.{Pin}
use Rattle.pin_tables.specs.declared.table.Role.{Role}
use Rattle.pin_tables.specs.declared.table.PinTable.{PinTable}
use Rattle.pin_tables.specs.declared.index.PinIndex.{PinIndex}
use Rattle.pin_tables.specs.Tables.{said_of}
use Rattle.pin_tables.specs.Rules.{is_supply}
use Rattle.pin_tables.specs.Index.{found}

abbrev pub pin : List ℕ → Direction → PinKind → Pin
pin name direction kind = record { name = name; direction = direction; kind = kind }

-- Liberty

abbrev pub as_pin : LibertyPin → Pin
as_pin p = pin p.name p.direction p.kind

abbrev pub is_supply_pin : LibertyPin → Bool
is_supply_pin p = is_supply p.kind

abbrev pub is_internal : Direction → Bool
is_internal Internal = true
is_internal d = false

-- none for an internal pin
abbrev pub cell_pin : LibertyPin → List Pin
cell_pin p = if is_internal p.direction then [] else as_pin p ∷ []

abbrev pub cell_pins : List LibertyPin → List Pin
cell_pins pins = flat_map cell_pin pins

abbrev pub supply_pin : List ℕ × PinKind → Pin
supply_pin s = pin s.0 Absent s.1

-- none where a pin of the cell has the name
abbrev pub supply_beside : List LibertyPin → List ℕ × PinKind → List Pin
supply_beside pins s = if is_some (said_of (map as_pin pins) s.0) then [] else supply_pin s ∷ []

-- the technology's supplies, where the cell has none of its own
abbrev pub lent_supplies : List LibertyPin → List (List ℕ × PinKind) → List Pin
lent_supplies pins supplies = if list_any is_supply_pin pins then [] else flat_map (supply_beside pins) supplies

abbrev pub liberty_table : LibertyCell → List (List ℕ × PinKind) → PinTable
liberty_table cell supplies = record { cell = cell.name; pins = cell_pins cell.pins ++ lent_supplies cell.pins supplies }

-- Verilog and CDL, whose pins have the kinds of Liberty's

abbrev pub kind_or_signal : Option Role → PinKind
kind_or_signal None = Signal
kind_or_signal (Some role) = role.kind

-- a pin of another view, of the kind that Liberty's table gives its name
abbrev pub pin_beside : List Pin → List ℕ → Direction → Pin
pin_beside liberty name direction = pin name direction (kind_or_signal (said_of liberty name))

abbrev pub port_pin : List Pin → Port → Pin
port_pin liberty p = pin_beside liberty p.name p.direction

abbrev pub module_table : Module → PinTable → PinTable
module_table m liberty = record { cell = m.name; pins = map (port_pin liberty.pins) m.ports }

abbrev pub card_pin : List Pin → List ℕ × Direction → Pin
card_pin liberty p = pin_beside liberty p.0 p.1

abbrev pub subcircuit_table : Subcircuit → PinTable → PinTable
subcircuit_table s liberty = record { cell = s.name; pins = map (card_pin liberty.pins) s.pins }

-- LEF

abbrev pub macro_pin : MacroPin → Pin
macro_pin p = pin p.name p.direction p.kind

abbrev pub macro_table : Macro → PinTable
macro_table m = record { cell = m.name; pins = map macro_pin m.pins }

-- As they are made from indexes

abbrev pub indexed_supply : PinIndex → List ℕ × PinKind → List Pin
indexed_supply names s = if is_some (found names s.0) then [] else supply_pin s ∷ []

abbrev pub indexed_supplies : PinIndex → List (List ℕ × PinKind) → List Pin
indexed_supplies names supplies = flat_map (indexed_supply names) supplies
