-- What it says of a cell that nothing differs.
use Rattle.std.specs.Prelude.{◌≡◌, ℕ, true, List, [], length, slice_get, Option, Some, None}
use Rattle.tern_core.specs.declared.tern.Tern.{Tern}
use Rattle.liberty_source.specs.declared.CellPart.{CellPart}
use Rattle.liberty_source.specs.declared.CellPart.TheVariants as cells
use Rattle.liberty_source.specs.declared.LibertyCell.{LibertyCell}
use Rattle.liberty_source.specs.declared.LibertyPin.{LibertyPin}
use Rattle.verilog_source.specs.declared.Source.{Source}
use Rattle.verilog_source.specs.declared.module.Module.{Module}
use Rattle.verilog_source.specs.declared.module.ModulePart.TheVariants as modules
use Rattle.liberty_meaning.specs.declared.behaviour.Behaviour.{Behaviour}
use Rattle.liberty_meaning.specs.Behaviour.{output_value}
use Rattle.liberty_meaning.specs.Names.{input_pins, output_pins}
use Rattle.liberty_meaning.specs.Cell.{Means}
use Rattle.name_index.specs.Places.{place_of}
use Rattle.udp_table.specs.Table.{Table}
use Rattle.module_net.specs.Naming.{nets_of}
use Rattle.module_net.specs.Driving.{IsAcceptedModule}
use Rattle.module_net.specs.Meaning.{IsSettledModule}
use Rattle.cell_compare.specs.declared.reasons.Flaw.{Flaw}
use Rattle.cell_compare.specs.declared.comparison.Comparison.{Comparison}
use Rattle.cell_compare.specs.declared.comparison.Comparison.TheVariants.{Vectors}
use Rattle.cell_compare.specs.Vectors.{IsVector}
use Rattle.cell_compare.specs.Rows.{is_known, net_value}
use Rattle.cell_compare.specs.Parts.{module_named, AreMade}
use Rattle.cell_compare.specs.Pins.{input_names, supplies_of}

-- the value of the module's net of this name, X where it has none
abbrev pub net_named : Module → List Tern → List ℕ → Tern
net_named m nets name = net_value nets (place_of (nets_of m) name)

-- the module's nets have settled so at these values of the cell's input pins
abbrev pub HaveSettled : LibertyCell → Module → List Table → List Tern → List Tern → Type 0
HaveSettled cell m tables pins nets = IsSettledModule m tables (input_names cell) (supplies_of cell) pins [] nets

-- At a vector the module's nets settle, and however they settle, each output that Liberty defines has Liberty's value.
pub record AreEqualAt (cell : LibertyCell) (b : Behaviour) (m : Module) (tables : List Table) (pins : List Tern) : Type 0 where
  pub nets : List Tern
  pub settled : HaveSettled cell m tables pins nets
  pub each : (nets : List Tern) → HaveSettled cell m tables pins nets → (k : ℕ) (p : LibertyPin) → slice_get (output_pins cell.pins) k ≡ Some p
      → is_known (output_value b k pins []) ≡ true → net_named m nets p.name ≡ output_value b k pins []

-- The cell means something, the module of its name is read, no element of it is refused, no net gets a value twice and
-- none depends on itself, and both agree at every vector of 0 and 1.
pub record IsEqual (cell : LibertyCell) (source : Source) : Type 0 where
  pub m : Module
  pub is_model : module_named source.modules cell.name ≡ Some (modules.Whole m)
  pub behaviour : Behaviour
  pub means : Means cell behaviour
  pub flaws : List (Option Flaw)
  pub tables : List Table
  pub made : AreMade source.primitives flaws tables
  pub accepted : IsAcceptedModule m tables (input_names cell) (supplies_of cell)
  pub agree : (pins : List Tern) → IsVector (length (input_pins cell.pins)) pins → AreEqualAt cell behaviour m tables pins

abbrev pub IsEqualPart : CellPart → Source → Type 0
IsEqualPart (cells.Whole cell) source = IsEqual cell source
IsEqualPart (cells.Refused name construct line) source = ⊥

-- the comparison says that the views are equal
abbrev pub SaysEqual : Comparison → Type 0
SaysEqual (Vectors vectors defined None) = Unit {0}
SaysEqual c = ⊥
