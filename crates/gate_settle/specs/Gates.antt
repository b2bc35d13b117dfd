-- What gates give (IEEE 1364-2005, clauses 7 and 8).
use Rattle.std.specs.Prelude.{ℕ, ◌==◌, Bool, true, false, ◌&&◌, ◌||◌, not, if◌then◌else◌, List, [], ◌∷◌, map, length, slice_index_or, Option, Some, None}
use Rattle.std.specs.List.{slice_get}
use Rattle.tern_core.specs.declared.tern.Tern.{Tern}
use Rattle.tern_core.specs.declared.tern.Tern.TheVariants.{Zero, One, Unknown}
use Rattle.tern_core.specs.Values.{not_of, and_of, or_of, xor_of}
use Rattle.udp_table.specs.Table.{Table}
use Rattle.udp_table.specs.Answers.{level_of}
use Rattle.gate_settle.specs.declared.gate.Operand.{Operand}
use Rattle.gate_settle.specs.declared.gate.Operand.TheVariants.{Net, Constant}
use Rattle.gate_settle.specs.declared.gate.Fold.{Fold}
use Rattle.gate_settle.specs.declared.gate.Fold.TheVariants.{And, Or, Xor}
use Rattle.gate_settle.specs.declared.gate.Function.{Function}
use Rattle.gate_settle.specs.declared.gate.Function.TheVariants.{Logic, Table as FromTable, State}
use Rattle.gate_settle.specs.declared.gate.Gate.{Gate}

-- the value at a place, X past the end
abbrev pub value_at : List Tern → ℕ → Tern
value_at values k = slice_index_or values k Unknown

abbrev pub operand_value : List Tern → Operand → Tern
operand_value nets (Net k) = value_at nets k
operand_value nets (Constant v) = v

abbrev pub conjunction : List Tern → Tern
conjunction [] = One
conjunction (v ∷ values) = and_of v (conjunction values)

abbrev pub disjunction : List Tern → Tern
disjunction [] = Zero
disjunction (v ∷ values) = or_of v (disjunction values)

abbrev pub parity : List Tern → Tern
parity [] = Zero
parity (v ∷ values) = xor_of v (parity values)

abbrev pub folded : Fold → List Tern → Tern
folded And values = conjunction values
folded Or values = disjunction values
folded Xor values = parity values

abbrev pub inverted_if : Bool → Tern → Tern
inverted_if true v = not_of v
inverted_if false v = v

-- the table is one of so many inputs, with or without a state
abbrev pub answers : Table → Bool → ℕ → Bool
answers t true n = t.sequential && t.inputs == n
answers t false n = not t.sequential && t.inputs == n

abbrev pub level_by : Option Table → List Tern → Tern
level_by None levels = Unknown
level_by (Some t) levels = if answers t false (length levels) then level_of t.rows levels else Unknown

-- what the combinational table at this place answers
abbrev pub table_value : List Table → ℕ → List Tern → Tern
table_value tables table levels = level_by (slice_get tables table) levels

-- what a gate gives, where its inputs have these values
abbrev pub function_value : List Table → List Tern → Function → List Tern → Tern
function_value tables states (Logic fold inverted) levels = inverted_if inverted (folded fold levels)
function_value tables states (FromTable table) levels = table_value tables table levels
function_value tables states (State table state) levels = value_at states state

abbrev pub levels_of : List Tern → Gate → List Tern
levels_of nets g = map (operand_value nets) g.inputs

abbrev pub gate_value : List Table → List Tern → List Tern → Gate → Tern
gate_value tables states nets g = function_value tables states g.function (levels_of nets g)

-- ---- which nets gates drive

abbrev pub is_among : List ℕ → ℕ → Bool
is_among [] k = false
is_among (o ∷ outputs) k = o == k || is_among outputs k

abbrev pub is_driven : List Gate → ℕ → Bool
is_driven [] k = false
is_driven (g ∷ gates) k = is_among g.outputs k || is_driven gates k
