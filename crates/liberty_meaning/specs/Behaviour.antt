-- What the calls of a compiled cell answer.
use Rattle.std.specs.Prelude.{◌≡◌, ℕ, zero, suc, ◌+◌, List, [], ◌∷◌, length, slice_get, Option, Some, None}
use Rattle.tern_core.specs.declared.tern.Tern.{Tern}
use Rattle.tern_core.specs.declared.tern.Tern.TheVariants as tern
use Rattle.liberty_function.specs.declared.function.Program.{Program}
use Rattle.liberty_function.specs.Sources.{value_at}
use Rattle.liberty_function.specs.Texts.{program_value}
use Rattle.liberty_meaning.specs.declared.behaviour.Behaviour.{Behaviour}
use Rattle.liberty_meaning.specs.declared.behaviour.StateProgram.{StateProgram}
use Rattle.liberty_meaning.specs.declared.behaviour.StateProgram.TheVariants as program
use Rattle.liberty_meaning.specs.Meaning.{Valuation}
use Rattle.liberty_meaning.specs.Next.{NextValue, pair_value, row_value}
use Rattle.liberty_meaning.specs.Table.{first_matching_row}
use Rattle.liberty_meaning.specs.PairMeaning.{next_pair}

-- the numbers of input pins, of state variables and of output pins
unfoldable pub inputs_of : Behaviour → ℕ
inputs_of b = b.inputs

unfoldable pub states_of : Behaviour → ℕ
states_of b = b.states

unfoldable pub outputs_of : Behaviour → ℕ
outputs_of b = length b.outputs

abbrev pub value_by : Option Program → Valuation
value_by None pins state = tern.Unknown
value_by (Some p) pins state = program_value p pins state

-- the value of an output, counted from 0; unknown past the last
unfoldable pub output_value : Behaviour → ℕ → Valuation
output_value b k pins state = value_by (slice_get b.outputs k) pins state

abbrev pub state_after : StateProgram → NextValue
state_after program.Nothing old new state k = value_at state k
state_after (program.Pair q) old new state k = pair_value (next_pair q old new state) k (value_at state k)
state_after (program.Rows t) old new state k = row_value (first_matching_row t old new state) k (value_at state k)

-- the k-th value of the state after the input pins have changed, counted from 0
unfoldable pub next_value_of : Behaviour → NextValue
next_value_of b old new state k = state_after b.state old new state k

-- as many values from a place on
unfoldable pub values_from : (ℕ → Tern) → ℕ → ℕ → List Tern
values_from f k zero = []
values_from f k (suc n) = f k ∷ values_from f (k + 1) n

-- the state after the input pins have changed from old to new
abbrev pub next_state : Behaviour → List Tern → List Tern → List Tern → List Tern
next_state b old new state = values_from (λ k. next_value_of b old new state k) 0 (length state)

-- a state that stays where the pins don't change
abbrev pub IsAtRest : Behaviour → List Tern → List Tern → Type 0
IsAtRest b pins state = next_state b pins pins state ≡ state

-- the state after the pins were said to be as they are so many times
abbrev pub after_times : Behaviour → List Tern → ℕ → List Tern → List Tern
after_times b pins zero state = state
after_times b pins (suc n) state = next_state b pins pins (after_times b pins n state)
