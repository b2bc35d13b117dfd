-- What compile answers: a behaviour that means what the cell says, or the first thing in the cell that has no meaning.
use Rattle.std.specs.Prelude.{◌≡◌, ℕ, if◌then◌else◌, List, [], ◌∷◌, length, slice_get, Option, Some, None, is_some, Result, Ok, Err}
use Rattle.tern_core.specs.declared.tern.Tern.{Tern}
use Rattle.tern_core.specs.declared.tern.Tern.TheVariants as tern
use Rattle.liberty_source.specs.declared.LibertyCell.{LibertyCell}
use Rattle.liberty_source.specs.declared.LibertyPin.{LibertyPin}
use Rattle.liberty_source.specs.declared.StateGroup.{StateGroup}
use Rattle.liberty_function.specs.Sources.{Named}
use Rattle.liberty_meaning.specs.declared.behaviour.Behaviour.{Behaviour}
use Rattle.liberty_meaning.specs.declared.behaviour.StateProgram.{StateProgram}
use Rattle.liberty_meaning.specs.declared.refusal.MeaningRefusal.{MeaningRefusal}
use Rattle.liberty_meaning.specs.declared.refusal.MeaningRefusal.TheVariants as refusal
use Rattle.liberty_meaning.specs.Names.{names_of, nodes_of, variables_of, is_direction_internal, input_pins, output_pins}
use Rattle.name_index.specs.Places.{place_of}
use Rattle.liberty_meaning.specs.Meaning.{UnlessMemory, IsOutput, RefusesOutputs}
use Rattle.liberty_meaning.specs.Next.{IsNext, IsGoodState, RefusesState}
use Rattle.liberty_meaning.specs.Behaviour.{inputs_of, states_of, outputs_of, output_value, next_value_of, state_after}

abbrev pub IsStateAnswer : List Named → List LibertyPin → StateGroup → Result StateProgram MeaningRefusal → Type 0
IsStateAnswer names pins group (Ok s) = IsNext names pins group (state_after s)
IsStateAnswer names pins group (Err e) = UnlessMemory e (RefusesState names pins group e)

abbrev pub node_or : List (List ℕ) → Option (List ℕ) → Option (List ℕ) → Option (List ℕ)
node_or nodes None more = more
node_or nodes (Some n) more = if is_some (place_of nodes n) then more else Some n

abbrev pub internal_or : List (List ℕ) → LibertyPin → Option (List ℕ) → Option (List ℕ)
internal_or nodes p more = if is_direction_internal p.direction then node_or nodes p.internal_node more else more

-- the first node that an internal pin shows and no table has
unfoldable pub unknown_internal : List (List ℕ) → List LibertyPin → Option (List ℕ)
unknown_internal nodes [] = None
unknown_internal nodes (p ∷ pins) = internal_or nodes p (unknown_internal nodes pins)

abbrev pub IsInternalsAnswer : List (List ℕ) → List LibertyPin → Result (Unit {0}) MeaningRefusal → Type 0
IsInternalsAnswer nodes pins (Ok u) = unknown_internal nodes pins ≡ None
IsInternalsAnswer nodes pins (Err e) = UnlessMemory e ((n : List ℕ) × (unknown_internal nodes pins ≡ Some n) × (e ≡ refusal.UnknownName n))

-- The calls of the behaviour answer what the cell says: each output has its own value, and none past the last has one
-- that is known; the next state is that of the state group.
pub record Means (cell : LibertyCell) (b : Behaviour) : Type 0 where
  pub inputs : inputs_of b ≡ length (input_pins cell.pins)
  pub states : states_of b ≡ length (variables_of cell.state)
  pub outputs : outputs_of b ≡ length (output_pins cell.pins)
  pub output : (k : ℕ) (p : LibertyPin) → slice_get (output_pins cell.pins) k ≡ Some p → IsOutput (names_of cell) (nodes_of cell.state) p (output_value b k)
  pub past : (k : ℕ) → slice_get (output_pins cell.pins) k ≡ None → (pins state : List Tern) → output_value b k pins state ≡ tern.Unknown
  pub next : IsNext (names_of cell) cell.pins cell.state (next_value_of b)
  pub internals : unknown_internal (nodes_of cell.state) cell.pins ≡ None

-- first the state group, then the internal pins, then the output pins
pub data Refuses (cell : LibertyCell) (e : MeaningRefusal) : Type 0 where
  in_state : RefusesState (names_of cell) cell.pins cell.state e → Refuses cell e
  in_internals : IsGoodState (names_of cell) cell.pins cell.state → (n : List ℕ) → unknown_internal (nodes_of cell.state) cell.pins ≡ Some n → e ≡ refusal.UnknownName n → Refuses cell e
  in_outputs : IsGoodState (names_of cell) cell.pins cell.state → unknown_internal (nodes_of cell.state) cell.pins ≡ None → RefusesOutputs (names_of cell) (nodes_of cell.state) cell.pins e → Refuses cell e

abbrev pub IsCompiled : LibertyCell → Result Behaviour MeaningRefusal → Type 0
IsCompiled cell (Ok b) = Means cell b
IsCompiled cell (Err e) = UnlessMemory e (Refuses cell e)
