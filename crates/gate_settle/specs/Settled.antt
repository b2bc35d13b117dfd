-- The settled assignment (IEEE 1364-2005, clause 7): a set of equations without an order.
use Rattle.std.specs.Prelude.{◌≡◌, ℕ, ◌==◌, Bool, true, false, ◌&&◌, ◌||◌, not, nat_lt, if◌then◌else◌, List, [], ◌∷◌, length, slice_set, Option, Some, None}
use Rattle.std.specs.List.{slice_get, list_all}
use Rattle.tern_core.specs.declared.tern.Tern.{Tern}
use Rattle.tern_core.specs.declared.tern.Tern.TheVariants.{Unknown}
use Rattle.udp_table.specs.Table.{Table}
use Rattle.udp_table.specs.Orders.{change_of}
use Rattle.gate_settle.specs.declared.gate.Function.{Function}
use Rattle.gate_settle.specs.declared.gate.Function.TheVariants.{Logic, Table as FromTable, State}
use Rattle.gate_settle.specs.declared.gate.Gate.{Gate}
use Rattle.gate_settle.specs.Gates.{value_at, gate_value, is_driven, levels_of, answers}

-- each of the nets has this value
abbrev pub AllHave : List Tern → List ℕ → Tern → Type 0
AllHave nets [] value = Unit {0}
AllHave nets (o ∷ outputs) value = (value_at nets o ≡ value) × AllHave nets outputs value

abbrev pub AreGatesSettled : List Table → List Tern → List Tern → List Gate → Type 0
AreGatesSettled tables states nets [] = Unit {0}
AreGatesSettled tables states nets (g ∷ gates) =
    AllHave nets g.outputs (gate_value tables states nets g) × AreGatesSettled tables states nets gates

-- A value for each net such that each net that no gate drives has the value that it begins with, and
-- each gate's outputs what the gate gives.
pub record AreSettled (tables : List Table) (gates : List Gate) (first states nets : List Tern) : Type 0 where
  pub count : length nets ≡ length first
  pub free : (k : ℕ) → is_driven gates k ≡ false → value_at nets k ≡ value_at first k
  pub driven : AreGatesSettled tables states nets gates

-- ---- how one pass finds it, gate after gate in an order of dependence

abbrev pub written : List ℕ → Tern → List Tern → List Tern
written [] value nets = nets
written (o ∷ outputs) value nets = written outputs value (slice_set nets o value)

abbrev pub values_after : List Table → List Tern → List Gate → List Tern → List Tern
values_after tables states [] nets = nets
values_after tables states (g ∷ gates) nets =
    values_after tables states gates (written g.outputs (gate_value tables states nets g) nets)

-- ---- moves

-- what a sequential primitive's state becomes when its inputs change, in whichever order
abbrev pub state_by : Option Table → List Tern → List Tern → Tern → Tern
state_by None old new state = Unknown
state_by (Some t) old new state = if answers t true (length new) then change_of t.rows old new state else Unknown

abbrev pub next_state : List Table → ℕ → List Tern → List Tern → Tern → Tern
next_state tables table old new state = state_by (slice_get tables table) old new state

-- the state of a sequential primitive has become what its inputs' change from the old to the new nets makes of it
abbrev pub IsStateMoved : List Table → List Tern → List Tern → List Tern → List Tern → Gate → Function → Type 0
IsStateMoved tables old old_states new new_states g (State table k) =
    value_at new_states k ≡ next_state tables table (levels_of old g) (levels_of new g) (value_at old_states k)
IsStateMoved tables old old_states new new_states g (Logic fold inverted) = Unit {0}
IsStateMoved tables old old_states new new_states g (FromTable table) = Unit {0}

abbrev pub AreStatesMoved : List Table → List Tern → List Tern → List Tern → List Tern → List Gate → Type 0
AreStatesMoved tables old old_states new new_states [] = Unit {0}
AreStatesMoved tables old old_states new new_states (g ∷ gates) =
    IsStateMoved tables old old_states new new_states g g.function × AreStatesMoved tables old old_states new new_states gates

-- how one pass makes the move

abbrev pub states_after_gate : List Table → List Tern → List Tern → List Tern → Gate → Function → List Tern
states_after_gate tables old nets states g (State table k) =
    slice_set states k (next_state tables table (levels_of old g) (levels_of nets g) (value_at states k))
states_after_gate tables old nets states g (Logic fold inverted) = states
states_after_gate tables old nets states g (FromTable table) = states

abbrev pub states_after : List Table → List Tern → List Gate → List Tern → List Tern → List Tern
states_after tables old [] nets states = states
states_after tables old (g ∷ gates) nets states =
    let moved = states_after_gate tables old nets states g g.function in
    states_after tables old gates (written g.outputs (gate_value tables moved nets g) nets) moved

abbrev pub nets_after : List Table → List Tern → List Gate → List Tern → List Tern → List Tern
nets_after tables old [] nets states = nets
nets_after tables old (g ∷ gates) nets states =
    let moved = states_after_gate tables old nets states g g.function in
    nets_after tables old gates (written g.outputs (gate_value tables moved nets g) nets) moved

-- the gate holds this state
abbrev pub has_state : Function → ℕ → Bool
has_state (State table k) n = k == n
has_state (Logic fold inverted) n = false
has_state (FromTable table) n = false

abbrev pub is_held : List Gate → ℕ → Bool
is_held [] k = false
is_held (g ∷ gates) k = has_state g.function k || is_held gates k

-- the gate's state is one of so many, and none of these gates holds it too
abbrev pub is_own : ℕ → List Gate → Function → Bool
is_own count gates (State table k) = nat_lt k count && not (is_held gates k)
is_own count gates (Logic fold inverted) = true
is_own count gates (FromTable table) = true

-- each gate with a state has one of its own
abbrev pub have_own_states : ℕ → List Gate → Bool
have_own_states count [] = true
have_own_states count (g ∷ gates) = is_own count gates g.function && have_own_states count gates

-- places among so many
abbrev pub are_places : ℕ → List ℕ → Bool
are_places count places = list_all (λ k. nat_lt k count) places
