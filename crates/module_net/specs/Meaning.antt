-- What a module's elements make of its nets, in the module's own names (IEEE 1364-2005, clauses 7 and 8). Nothing here
-- speaks of the gates of a network or of their order.
use Rattle.std.specs.Prelude.{◌≡◌, ℕ, Bool, true, false, ◌||◌, if◌then◌else◌, List, [], ◌∷◌, length, map, Option, Some, None}
use Rattle.std.specs.List.{list_any}
use Rattle.std.specs.Str.{bytes_eq}
use Rattle.tern_core.specs.declared.tern.Tern.{Tern}
use Rattle.tern_core.specs.declared.tern.Tern.TheVariants.{Unknown}
use Rattle.verilog_source.specs.declared.module.Module.{Module}
use Rattle.verilog_source.specs.declared.module.Element.{Element}
use Rattle.verilog_source.specs.declared.module.Terminal.{Terminal}
use Rattle.verilog_source.specs.declared.module.Terminal.TheVariants.{Net, Constant}
use Rattle.udp_table.specs.Table.{Table}
use Rattle.udp_table.specs.Answers.{level_of}
use Rattle.udp_table.specs.Orders.{change_of}
use Rattle.gate_settle.specs.Gates.{value_at, folded, inverted_if}
use Rattle.gate_settle.specs.Network.{given_value}
use Rattle.name_index.specs.Places.{is_known}
use Rattle.module_net.specs.declared.word.GateWord.{GateWord}
use Rattle.module_net.specs.Naming.{nets_of, place_in}
use Rattle.module_net.specs.Elements.{element_word, table_named, holds_state, next_state_place, input_terminals, output_terminals}
use Rattle.module_net.specs.Outside.{given_of}

-- the value of the net of this name, where the nets have these names and values
abbrev pub value_named : List (List ℕ) → List Tern → List ℕ → Tern
value_named names nets name = value_at nets (place_in names name)

abbrev pub terminal_value : List (List ℕ) → List Tern → Terminal → Tern
terminal_value names nets (Net n) = value_named names nets n
terminal_value names nets (Constant v) = v

abbrev pub input_values : List (List ℕ) → List Tern → Element → List Tern
input_values names nets e = map (terminal_value names nets) (input_terminals e)

-- A gate takes its inputs together, a combinational primitive's table answers them, a sequential one shows its state.
abbrev pub answer_by : Option GateWord → Option Table → Tern → List Tern → Tern
answer_by (Some w) table state levels = inverted_if w.inverted (folded w.fold levels)
answer_by None (Some t) state levels = if t.sequential then state else level_of t.rows levels
answer_by None None state levels = Unknown

-- what an element gives, where its inputs have their nets' values and its state, if it holds one, has this value
abbrev pub element_value : List Table → List (List ℕ) → List Tern → Tern → Element → Tern
element_value tables names nets state e = answer_by (element_word e) (table_named tables e.kind) state (input_values names nets e)

-- each net among these terminals has the value
abbrev pub NetsHave : List (List ℕ) → List Tern → Tern → List Terminal → Type 0
NetsHave names nets value [] = Unit {0}
NetsHave names nets value (Net n ∷ terminals) = (value_named names nets n ≡ value) × NetsHave names nets value terminals
NetsHave names nets value (Constant v ∷ terminals) = NetsHave names nets value terminals

-- each element's outputs have what it gives, where so many states stand before these elements
abbrev pub ElementsGive : List Table → List (List ℕ) → List Tern → List Tern → ℕ → List Element → Type 0
ElementsGive tables names states nets k [] = Unit {0}
ElementsGive tables names states nets k (e ∷ elements) =
    NetsHave names nets (element_value tables names nets (value_at states k) e) (output_terminals e)
    × ElementsGive tables names states nets (next_state_place (holds_state tables e) k) elements

abbrev pub is_of : List ℕ → Terminal → Bool
is_of name (Net n) = bytes_eq n name
is_of name (Constant v) = false

-- the net of this name is an output of an element
abbrev pub is_output : List ℕ → List Element → Bool
is_output name [] = false
is_output name (e ∷ elements) = list_any (is_of name) (output_terminals e) || is_output name elements

-- The module is settled: each element gives its outputs their value, and each other net has what it has from outside.
pub record IsSettledModule (m : Module) (tables : List Table) (inputs : List (List ℕ)) (supplies : List (List ℕ × Tern)) (pins states nets : List Tern) : Type 0 where
  pub count : length nets ≡ length (nets_of m)
  pub elements : ElementsGive tables (nets_of m) states nets 0 m.elements
  pub others : (name : List ℕ) → is_known name (nets_of m) ≡ true → is_output name m.elements ≡ false
      → value_named (nets_of m) nets name ≡ given_value pins (given_of m inputs supplies name)

-- for given pins and states a module has just one settled assignment
abbrev pub HasOneSettledModule : Module → List Table → List (List ℕ) → List (List ℕ × Tern) → Type 0
HasOneSettledModule m tables inputs supplies = (pins states : List Tern) → (nets : List Tern) × IsSettledModule m tables inputs supplies pins states nets
    × ((others : List Tern) → IsSettledModule m tables inputs supplies pins states others → others ≡ nets)

-- ---- moves

-- what a sequential primitive's state becomes, in whichever order its inputs change
abbrev pub changed_by : Option Table → List Tern → List Tern → Tern → Tern
changed_by (Some t) old new state = change_of t.rows old new state
changed_by None old new state = Unknown

abbrev pub HasMoved : Bool → List Table → List (List ℕ) → List Tern → Tern → List Tern → Tern → Element → Type 0
HasMoved true tables names old old_state new new_state e =
    new_state ≡ changed_by (table_named tables e.kind) (input_values names old e) (input_values names new e) old_state
HasMoved false tables names old old_state new new_state e = Unit {0}

abbrev pub StatesMove : List Table → List (List ℕ) → List Tern → List Tern → List Tern → List Tern → ℕ → List Element → Type 0
StatesMove tables names old old_states new new_states k [] = Unit {0}
StatesMove tables names old old_states new new_states k (e ∷ elements) =
    HasMoved (holds_state tables e) tables names old (value_at old_states k) new (value_at new_states k) e
    × StatesMove tables names old old_states new new_states (next_state_place (holds_state tables e) k) elements

-- From old nets and states to new pins: the module is settled with the new pins and states, and each new state is what
-- its primitive makes of the change of its inputs.
pub record IsModuleMove (m : Module) (tables : List Table) (inputs : List (List ℕ)) (supplies : List (List ℕ × Tern)) (pins old_nets old_states new_nets new_states : List Tern) : Type 0 where
  pub settled : IsSettledModule m tables inputs supplies pins new_states new_nets
  pub states : StatesMove tables (nets_of m) old_nets old_states new_nets new_states 0 m.elements
  pub count : length new_states ≡ length old_states

-- two moves of a module from the same nets and states to the same pins are one
abbrev pub HasOneModuleMove : Module → List Table → List (List ℕ) → List (List ℕ × Tern) → List Tern → List Tern → List Tern → Type 0
HasOneModuleMove m tables inputs supplies pins old_nets old_states = (nets states others other_states : List Tern)
    → IsModuleMove m tables inputs supplies pins old_nets old_states nets states → IsModuleMove m tables inputs supplies pins old_nets old_states others other_states
    → (nets ≡ others) × (states ≡ other_states)
