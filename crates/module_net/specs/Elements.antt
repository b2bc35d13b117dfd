-- The elements of a module as gates (IEEE 1364-2005, clauses 7 and 8).
use Rattle.std.specs.Prelude.{◌≡◌, ℕ, ◌+◌, ◌-◌, ◌==◌, Bool, true, false, nat_lt, if◌then◌else◌, List, [], ◌∷◌, length, map, take, drop, find, Option, Some, None, codes, is_some}
use Rattle.std.specs.List.{flat_map, list_all}
use Rattle.std.specs.Str.{bytes_eq}
use Rattle.verilog_source.specs.declared.module.Element.{Element}
use Rattle.verilog_source.specs.declared.module.Terminal.{Terminal}
use Rattle.verilog_source.specs.declared.module.Terminal.TheVariants as terminals
use Rattle.udp_table.specs.Table.{Table}
use Rattle.gate_settle.specs.declared.gate.Operand.{Operand}
use Rattle.gate_settle.specs.declared.gate.Operand.TheVariants.{Net, Constant}
use Rattle.gate_settle.specs.declared.gate.Fold.{Fold}
use Rattle.gate_settle.specs.declared.gate.Fold.TheVariants.{And, Or, Xor}
use Rattle.gate_settle.specs.declared.gate.Function.{Function}
use Rattle.gate_settle.specs.declared.gate.Function.TheVariants.{Logic, Table as FromTable, State}
use Rattle.gate_settle.specs.declared.gate.Gate.{Gate}
use Rattle.module_net.specs.declared.word.GateWord.{GateWord}
use Rattle.module_net.specs.declared.refusal.GateRefusal.{GateRefusal}
use Rattle.module_net.specs.declared.refusal.GateRefusal.TheVariants.{UnknownUdp, PortCount}
use Rattle.module_net.specs.Naming.{place_in, firsts}

abbrev pub one_output : Fold → Bool → GateWord
one_output fold inverted = record { fold = fold; inverted = inverted; many_outputs = false }

-- a buffer of one input folds it alone
abbrev pub one_input : Bool → GateWord
one_input inverted = record { fold = And; inverted = inverted; many_outputs = true }

-- the gates by their words
unfoldable pub gate_word : List ℕ → Option GateWord
gate_word w =
    if bytes_eq w (codes "and") then Some (one_output And false) else
    if bytes_eq w (codes "nand") then Some (one_output And true) else
    if bytes_eq w (codes "or") then Some (one_output Or false) else
    if bytes_eq w (codes "nor") then Some (one_output Or true) else
    if bytes_eq w (codes "xor") then Some (one_output Xor false) else
    if bytes_eq w (codes "xnor") then Some (one_output Xor true) else
    if bytes_eq w (codes "buf") then Some (one_input false) else
    if bytes_eq w (codes "not") then Some (one_input true) else
    None

-- the gate that an element is; the name of a primitive is no gate, whatever its letters
unfoldable pub element_word : Element → Option GateWord
element_word e = if e.is_gate then gate_word e.kind else None

-- how many of so many terminals are outputs, which come first
abbrev pub outputs_by : Option GateWord → ℕ → ℕ
outputs_by None n = 1
outputs_by (Some w) n = if w.many_outputs then n - 1 else 1

abbrev pub output_terminals : Element → List Terminal
output_terminals e = take (outputs_by (element_word e) (length e.terminals)) e.terminals

abbrev pub input_terminals : Element → List Terminal
input_terminals e = drop (outputs_by (element_word e) (length e.terminals)) e.terminals

-- the primitive of this name
abbrev pub table_named : List Table → List ℕ → Option Table
table_named tables name = find (λ t. bytes_eq name t.name) tables

-- ---- refused elements

abbrev pub port_count : Bool → Element → Option GateRefusal
port_count true e = None
port_count false e = Some (PortCount e.label)

abbrev pub refused_primitive : Option Table → Element → Option GateRefusal
refused_primitive None e = Some (UnknownUdp e.kind)
refused_primitive (Some t) e = port_count (length e.terminals == t.inputs + 1) e

abbrev pub refused_by : Option GateWord → List Table → Element → Option GateRefusal
refused_by (Some w) tables e = port_count (nat_lt 1 (length e.terminals)) e
refused_by None tables e = refused_primitive (table_named tables e.kind) e

abbrev pub refused_element : List Table → Element → Option GateRefusal
refused_element tables e = refused_by (element_word e) tables e

abbrev pub or_else : Option GateRefusal → Option GateRefusal → Option GateRefusal
or_else (Some r) other = Some r
or_else None other = other

-- the first refused element, in the order of the text
abbrev pub first_refused : List Table → List Element → Option GateRefusal
first_refused tables [] = None
first_refused tables (e ∷ elements) = or_else (refused_element tables e) (first_refused tables elements)

-- ---- the gates

-- the primitives that elements name, where the words of gates are none
abbrev pub primitive_name : Element → List (List ℕ)
primitive_name e = if is_some (element_word e) then [] else e.kind ∷ []

abbrev pub used_in : List Element → List (List ℕ)
used_in elements = firsts [] (flat_map primitive_name elements)

abbrev pub table_list : Option Table → List Table
table_list None = []
table_list (Some t) = t ∷ []

-- their tables
abbrev pub tables_of : List Table → List (List ℕ) → List Table
tables_of tables used = flat_map (λ name. table_list (table_named tables name)) used

abbrev pub is_sequential : Option Table → Bool
is_sequential None = false
is_sequential (Some t) = t.sequential

-- the element holds a state
abbrev pub holds_state : List Table → Element → Bool
holds_state tables e = if is_some (element_word e) then false else is_sequential (table_named tables e.kind)

abbrev pub primitive_function : Bool → ℕ → ℕ → Function
primitive_function true table state = State table state
primitive_function false table state = FromTable table

abbrev pub function_by : Option GateWord → Bool → ℕ → ℕ → Function
function_by (Some w) sequential table state = Logic w.fold w.inverted
function_by None sequential table state = primitive_function sequential table state

abbrev pub operand : List (List ℕ) → Terminal → Operand
operand nets (terminals.Net n) = Net (place_in nets n)
operand nets (terminals.Constant v) = Constant v

-- the net that an output drives, none where a constant stands in its place
abbrev pub driven : List (List ℕ) → Terminal → List ℕ
driven nets (terminals.Net n) = place_in nets n ∷ []
driven nets (terminals.Constant v) = []

-- an element as a gate, where so many elements and so many states stand before it
abbrev pub gate_of : List Table → List (List ℕ) → List (List ℕ) → ℕ → ℕ → Element → Gate
gate_of tables used nets element state e = record {
  element = element;
  function = function_by (element_word e) (holds_state tables e) (place_in used e.kind) state;
  inputs = map (operand nets) (input_terminals e);
  outputs = flat_map (driven nets) (output_terminals e);
}

abbrev pub next_state_place : Bool → ℕ → ℕ
next_state_place true n = n + 1
next_state_place false n = n

abbrev pub gates_from : List Table → List (List ℕ) → List (List ℕ) → ℕ → ℕ → List Element → List Gate
gates_from tables used nets element state [] = []
gates_from tables used nets element state (e ∷ elements) =
    gate_of tables used nets element state e ∷ gates_from tables used nets (element + 1) (next_state_place (holds_state tables e) state) elements

-- the net that shows the element's state
abbrev pub state_net_by : Bool → List (List ℕ) → Element → List ℕ
state_net_by true nets e = flat_map (driven nets) (output_terminals e)
state_net_by false nets e = []

-- for each state, in the order of the text, the net that shows it
abbrev pub state_nets_of : List Table → List (List ℕ) → List Element → List ℕ
state_nets_of tables nets elements = flat_map (λ e. state_net_by (holds_state tables e) nets e) elements

abbrev pub is_net : Terminal → Bool
is_net (terminals.Net n) = true
is_net (terminals.Constant v) = false

-- constants stand in the places of inputs alone
abbrev pub DriveNets : List Element → Type 0
DriveNets [] = Unit {0}
DriveNets (e ∷ elements) = (list_all is_net (output_terminals e) ≡ true) × DriveNets elements
