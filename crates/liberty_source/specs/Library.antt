-- What a library holds that was read of a text: names, pins with directions, and words that can be shown.
use Rattle.std.specs.Prelude.{◌≡◌, ◌≤◌, ℕ, Bool, true, false, ◌&&◌, List, [], ◌++◌, length, map, Option, Some, None}
use Rattle.std.specs.List.{list_all}
use Rattle.text_scan.specs.declared.limits.Limits.{Limits}
use Rattle.text_scan.specs.declared.pins.Direction.{Direction}
use Rattle.text_scan.specs.declared.pins.Direction.TheVariants.{Input, Output, Internal, Absent}
use Rattle.text_scan.specs.declared.pins.PinKind.{PinKind}
use Rattle.text_scan.specs.declared.pins.PinKind.TheVariants.{Signal, Power, Ground}
use Rattle.file_rules.specs.Names.{is_name_within, is_distinct, is_shown}
use Rattle.liberty_source.specs.declared.Library.{Library}
use Rattle.liberty_source.specs.declared.CellPart.{CellPart}
use Rattle.liberty_source.specs.declared.CellPart.TheVariants.{Whole, Refused}
use Rattle.liberty_source.specs.declared.LibertyCell.{LibertyCell}
use Rattle.liberty_source.specs.declared.LibertyPin.{LibertyPin}
use Rattle.liberty_source.specs.declared.StateGroup.{StateGroup}
use Rattle.liberty_source.specs.declared.StateGroup.TheVariants.{Stateless, Ff, Latch, Rows}

abbrev pub cell_name : CellPart → List ℕ
cell_name (Whole cell) = cell.name
cell_name (Refused name construct line) = name

abbrev pub pin_name : LibertyPin → List ℕ
pin_name p = p.name

-- a signal is an input, an output or an internal pin, and a supply has no direction
abbrev pub is_directed : PinKind → Direction → Bool
is_directed Signal Input = true
is_directed Signal Output = true
is_directed Signal Internal = true
is_directed Power Absent = true
is_directed Ground Absent = true
is_directed _ _ = false

abbrev pub is_name_if_there : Limits → Option (List ℕ) → Bool
is_name_if_there limits None = true
is_name_if_there limits (Some name) = is_name_within limits name

abbrev pub is_pin : Limits → LibertyPin → Bool
is_pin limits p = is_name_within limits p.name && is_directed p.kind p.direction && is_name_if_there limits p.internal_node

-- the state variables, and the columns of a state table
abbrev pub state_names : StateGroup → List (List ℕ)
state_names Stateless = []
state_names (Ff group) = group.variables
state_names (Latch group) = group.variables
state_names (Rows group) = group.inputs ++ group.nodes

abbrev pub is_cell : Limits → LibertyCell → Bool
is_cell limits cell =
    is_name_within limits cell.name && list_all (is_pin limits) cell.pins && is_distinct (map pin_name cell.pins)
    && list_all (is_name_within limits) (state_names cell.state)

abbrev pub is_part : Limits → CellPart → Bool
is_part limits (Whole cell) = is_cell limits cell
is_part limits (Refused name construct line) = is_name_within limits name && is_shown construct

-- Each name is a name within the limit, no cell's name stands twice, and each cell is read whole, with no pin twice, or
-- refused with a word that can be shown.
pub record IsLibrary (limits : Limits) (library : Library) : Type 0 where
  pub name : is_name_within limits library.name ≡ true
  pub few : length library.cells ≤ limits.cells
  pub cells : list_all (is_part limits) library.cells ≡ true
  pub distinct : is_distinct (map cell_name library.cells) ≡ true
