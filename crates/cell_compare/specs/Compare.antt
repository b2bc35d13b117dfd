-- What compare finds of a cell: the first of these that applies, in this order.
use Rattle.std.specs.Prelude.{◌≡◌, ℕ, Bool, true, false, ◌||◌, nat_lt, List, [], ◌∷◌, map, length, slice_get, Option, Some, None, codes}
use Rattle.std.specs.Option.{option_map}
use Rattle.text_scan.specs.declared.limits.LimitKind.{LimitKind}
use Rattle.text_scan.specs.declared.limits.LimitKind.TheVariants.{Pins as AllPins, Inputs, Gates}
use Rattle.liberty_source.specs.declared.CellPart.{CellPart}
use Rattle.liberty_source.specs.declared.CellPart.TheVariants as cells
use Rattle.liberty_source.specs.declared.LibertyCell.{LibertyCell}
use Rattle.verilog_source.specs.declared.Source.{Source}
use Rattle.verilog_source.specs.declared.module.Module.{Module}
use Rattle.verilog_source.specs.declared.module.ModulePart.{ModulePart}
use Rattle.verilog_source.specs.declared.module.ModulePart.TheVariants as modules
use Rattle.verilog_source.specs.declared.primitive.UdpPart.{UdpPart}
use Rattle.liberty_meaning.specs.declared.behaviour.Behaviour.{Behaviour}
use Rattle.liberty_meaning.specs.declared.refusal.MeaningRefusal.{MeaningRefusal}
use Rattle.liberty_meaning.specs.Names.{input_pins, variables_of}
use Rattle.liberty_meaning.specs.Cell.{Means, Refuses}
use Rattle.udp_table.specs.Table.{Table}
use Rattle.module_net.specs.Elements.{DriveNets}
use Rattle.module_net.specs.Building.{NamedNetwork, IsNetOf, IsRefused}
use Rattle.module_net.specs.declared.refusal.GateRefusal.{GateRefusal}
use Rattle.gate_settle.specs.Network.{HasOneSettled}
use Rattle.pin_tables.specs.Findings.{ArePinFindings}
use Rattle.verdict_text.specs.declared.finding.Finding.{Finding}
use Rattle.verdict_text.specs.declared.finding.Code.TheVariants.{M1}
use Rattle.verdict_text.specs.declared.finding.View.TheVariants.{Liberty, Verilog}
use Rattle.verdict_text.specs.declared.reason.Reason.{Reason}
use Rattle.verdict_text.specs.declared.reason.Reason.TheVariants.{Construct, Limit, NoTable}
use Rattle.cell_compare.specs.declared.comparison.Comparison.{Comparison}
use Rattle.cell_compare.specs.declared.comparison.Comparison.TheVariants.{Refused, Pins, Vectors}
use Rattle.cell_compare.specs.declared.rows.Output.{Output}
use Rattle.cell_compare.specs.declared.tally.OutputValues.{OutputValues}
use Rattle.cell_compare.specs.declared.tally.Disagreement.{Disagreement}
use Rattle.cell_compare.specs.declared.tally.Tally.{Tally}
use Rattle.verdict_text.specs.declared.finding.View.{View}
use Rattle.cell_compare.specs.declared.reasons.Flaw.{Flaw}
use Rattle.cell_compare.specs.Vectors.{vectors}
use Rattle.cell_compare.specs.Rows.{AreRows, outputs_of, defined_count, first_disagreement}
use Rattle.cell_compare.specs.Parts.{module_named, udp_name, AreMade, first_reason}
use Rattle.cell_compare.specs.Pins.{two_views, have_many_pins, compared, input_names, supplies_of}
use Rattle.cell_compare.specs.Reasons.{IsMeaningReason, IsGateReason}

-- one fact where something is so, and else another
abbrev pub Either : Bool → Type 0 → Type 0 → Type 0
Either true P Q = P
Either false P Q = Q

abbrev pub refused : Reason → Comparison → Type 0
refused r c = c ≡ Refused r

abbrev pub over : LimitKind → ℕ → Reason
over kind number = Limit kind number

abbrev pub not_read : View → List ℕ → ℕ → Reason
not_read view word line = Construct view word line

-- ---- the vectors

abbrev pub output_name : Option Output → List ℕ
output_name None = []
output_name (Some o) = o.name

-- the finding of two values that differ
abbrev pub finding_of : List Output → Disagreement → Finding
finding_of outputs d = record {
  code = M1;
  pin = Some (output_name (slice_get outputs d.output));
  view = Verilog;
  mismatch = Some (record { row = d.row; change = None; liberty = d.liberty; other = d.verilog });
  waiver = None;
}

abbrev pub counted : List Output → Tally → Comparison
counted outputs t = Vectors t.rows t.defined (option_map (finding_of outputs) t.first)

-- The network has one settled assignment at each vector, and each vector was compared: how many there are, how many
-- values Liberty defines, and the first that differs.
pub record AreCompared (b : Behaviour) (cell : LibertyCell) (net : NamedNetwork) (c : Comparison) : Type 0 where
  pub one_settled : HasOneSettled net.network
  pub rows : List (List OutputValues)
  pub each : AreRows b net.network (outputs_of net.names cell.pins) (vectors (length (input_pins cell.pins))) rows
  pub found : c ≡ Vectors (length rows) (defined_count rows) (option_map (finding_of (outputs_of net.names cell.pins)) (first_disagreement 1 rows))

-- ---- the cell and its module

-- the cell holds a state in either view
abbrev pub holds_state : LibertyCell → NamedNetwork → Bool
holds_state cell net = nat_lt 0 (length (variables_of cell.state)) || nat_lt 0 (length net.network.state_nets)

abbrev pub IsOverNetwork : Behaviour → LibertyCell → NamedNetwork → Comparison → Type 0
IsOverNetwork b cell net c = Either (holds_state cell net) (refused NoTable c) (AreCompared b cell net c)

-- the elements make no network, or one
pub data IsOverTables (b : Behaviour) (cell : LibertyCell) (m : Module) (tables : List Table) (c : Comparison) : Type 0 where
  no_network : (e : GateRefusal) → IsRefused m tables (input_names cell) (supplies_of cell) e → (r : Reason) → IsGateReason e r → refused r c → IsOverTables b cell m tables c
  network : (net : NamedNetwork) → IsNetOf m tables (input_names cell) (supplies_of cell) net → IsOverNetwork b cell net c → IsOverTables b cell m tables c

abbrev pub IsOverReason : Option Reason → Type 0 → Comparison → Type 0
IsOverReason (Some r) P c = refused r c
IsOverReason None P c = P

-- a primitive that the module uses is refused, or none
pub record IsOverPrimitives (b : Behaviour) (cell : LibertyCell) (m : Module) (primitives : List UdpPart) (c : Comparison) : Type 0 where
  pub flaws : List (Option Flaw)
  pub tables : List Table
  pub made : AreMade primitives flaws tables
  pub found : IsOverReason (first_reason (map udp_name primitives) flaws m.elements) (IsOverTables b cell m tables c) c

-- No text gives a module in which a constant stands as an output; such a module is refused as if it were read so.
pub data IsOverElements (b : Behaviour) (cell : LibertyCell) (m : Module) (primitives : List UdpPart) (c : Comparison) : Type 0 where
  drive_constants : (DriveNets m.elements → ⊥) → refused (Construct Verilog (codes "constant") 0) c → IsOverElements b cell m primitives c
  drive_nets : DriveNets m.elements → IsOverPrimitives b cell m primitives c → IsOverElements b cell m primitives c

abbrev pub IsOverGates : Behaviour → LibertyCell → Module → List UdpPart → Comparison → Type 0
IsOverGates b cell m primitives c = Either (nat_lt 512 (length m.elements)) (refused (Limit Gates 512) c) (IsOverElements b cell m primitives c)

-- the cell has no meaning, or one
pub data IsOverMeaning (cell : LibertyCell) (m : Module) (primitives : List UdpPart) (c : Comparison) : Type 0 where
  no_meaning : (e : MeaningRefusal) → Refuses cell e → (r : Reason) → IsMeaningReason e r → refused r c → IsOverMeaning cell m primitives c
  meaning : (b : Behaviour) → Means cell b → IsOverGates b cell m primitives c → IsOverMeaning cell m primitives c

abbrev pub IsOverModule : LibertyCell → Option Module → List UdpPart → Comparison → Type 0
IsOverModule cell None primitives c = ⊥
IsOverModule cell (Some m) primitives c =
    Either (nat_lt 12 (length (input_pins cell.pins))) (refused (Limit Inputs 12) c) (IsOverMeaning cell m primitives c)

-- where there is a finding about pins it is the answer; where the module is absent there is one
abbrev pub IsOverFindings : List Finding → LibertyCell → Option Module → List UdpPart → Comparison → Type 0
IsOverFindings (f ∷ found) cell m primitives c = c ≡ Pins (f ∷ found)
IsOverFindings [] cell m primitives c = IsOverModule cell m primitives c

pub record IsOverPins (cell : LibertyCell) (m : Option Module) (primitives : List UdpPart) (c : Comparison) : Type 0 where
  pub findings : List Finding
  pub are : ArePinFindings (two_views cell m) findings
  pub found : IsOverFindings (compared findings) cell m primitives c

abbrev pub IsOverViews : LibertyCell → Option Module → List UdpPart → Comparison → Type 0
IsOverViews cell m primitives c = Either (have_many_pins (two_views cell m)) (refused (Limit AllPins 64) c) (IsOverPins cell m primitives c)

abbrev pub IsOverPart : LibertyCell → Option ModulePart → List UdpPart → Comparison → Type 0
IsOverPart cell (Some (modules.Refused name construct line)) primitives c = refused (Construct Verilog construct line) c
IsOverPart cell (Some (modules.Whole m)) primitives c = IsOverViews cell (Some m) primitives c
IsOverPart cell None primitives c = IsOverViews cell None primitives c

-- what compare finds of a cell over a source text
abbrev pub IsComparison : CellPart → Source → Comparison → Type 0
IsComparison (cells.Refused name construct line) source c = refused (Construct Liberty construct line) c
IsComparison (cells.Whole cell) source c = IsOverPart cell (module_named source.modules cell.name) source.primitives c
