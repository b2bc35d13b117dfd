-- The names of a cell: input pins, internal pins, state variables, in this order.
use Rattle.std.specs.Prelude.{ℕ, ◌+◌, Bool, true, false, if◌then◌else◌, List, [], ◌∷◌, ◌++◌, filter, Option, Some, None}
use Rattle.name_index.specs.Places.{place_of}
use Rattle.text_scan.specs.declared.pins.Direction.{Direction}
use Rattle.text_scan.specs.declared.pins.Direction.TheVariants as direction
use Rattle.liberty_source.specs.declared.LibertyCell.{LibertyCell}
use Rattle.liberty_source.specs.declared.LibertyPin.{LibertyPin}
use Rattle.liberty_source.specs.declared.StateGroup.{StateGroup}
use Rattle.liberty_source.specs.declared.StateGroup.TheVariants.{Stateless, Ff, Latch, Rows}
use Rattle.liberty_function.specs.declared.program.Source.{Source}
use Rattle.liberty_function.specs.declared.program.Source.TheVariants as source
use Rattle.liberty_function.specs.Sources.{Named}

abbrev pub is_direction_input : Direction → Bool
is_direction_input direction.Input = true
is_direction_input direction.Output = false
is_direction_input direction.Inout = false
is_direction_input direction.Feedthru = false
is_direction_input direction.Internal = false
is_direction_input direction.Absent = false

abbrev pub is_direction_output : Direction → Bool
is_direction_output direction.Input = false
is_direction_output direction.Output = true
is_direction_output direction.Inout = false
is_direction_output direction.Feedthru = false
is_direction_output direction.Internal = false
is_direction_output direction.Absent = false

abbrev pub is_direction_internal : Direction → Bool
is_direction_internal direction.Input = false
is_direction_internal direction.Output = false
is_direction_internal direction.Inout = false
is_direction_internal direction.Feedthru = false
is_direction_internal direction.Internal = true
is_direction_internal direction.Absent = false

-- the input pins and the output pins in the order of the file
abbrev pub input_pins : List LibertyPin → List LibertyPin
input_pins pins = filter (λ (p : LibertyPin). is_direction_input p.direction) pins

abbrev pub output_pins : List LibertyPin → List LibertyPin
output_pins pins = filter (λ (p : LibertyPin). is_direction_output p.direction) pins

-- the input pins with their places among the inputs, counted from one on
unfoldable pub inputs_from : ℕ → List LibertyPin → List Named
inputs_from k [] = []
inputs_from k (p ∷ pins) = if is_direction_input p.direction then record { name = p.name; source = source.Input k } ∷ inputs_from (k + 1) pins else inputs_from k pins

abbrev pub node_source : Option ℕ → Source
node_source None = source.Unknown
node_source (Some k) = source.State k

-- an internal pin shows a node of the table, or nothing that is known
abbrev pub internal_source : List (List ℕ) → Option (List ℕ) → Source
internal_source nodes None = source.Unknown
internal_source nodes (Some n) = node_source (place_of nodes n)

unfoldable pub internals_of : List (List ℕ) → List LibertyPin → List Named
internals_of nodes [] = []
internals_of nodes (p ∷ pins) = if is_direction_internal p.direction then record { name = p.name; source = internal_source nodes p.internal_node } ∷ internals_of nodes pins else internals_of nodes pins

unfoldable pub states_from : ℕ → List (List ℕ) → List Named
states_from k [] = []
states_from k (n ∷ names) = record { name = n; source = source.State k } ∷ states_from (k + 1) names

-- the nodes of a table
abbrev pub nodes_of : StateGroup → List (List ℕ)
nodes_of Stateless = []
nodes_of (Ff f) = []
nodes_of (Latch l) = []
nodes_of (Rows r) = r.nodes

-- the names of the state's values
abbrev pub variables_of : StateGroup → List (List ℕ)
variables_of Stateless = []
variables_of (Ff f) = f.variables
variables_of (Latch l) = l.variables
variables_of (Rows r) = r.nodes

abbrev pub names_of : LibertyCell → List Named
names_of cell = (inputs_from 0 cell.pins ++ internals_of (nodes_of cell.state) cell.pins) ++ states_from 0 (variables_of cell.state)
