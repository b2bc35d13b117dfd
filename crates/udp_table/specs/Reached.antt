-- Which states the orders of some inputs end in.
use Rattle.std.specs.Prelude.{◌≡◌, ◌↔◌, ℕ, ◌+◌, ◌<◌, ◌==◌, IsTrue, List, [], ◌∷◌, slice_index_or, if◌then◌else◌}
use Rattle.tern_core.specs.declared.tern.Tern.{Tern}
use Rattle.udp_table.specs.declared.states.States.{States}
use Rattle.udp_table.specs.declared.row.Row.{Row}
use Rattle.udp_table.specs.Orders.{state_after}
use Rattle.udp_table.specs.Subsets.{has, none, members}

-- how often x stands in a list
abbrev pub times : ℕ → List ℕ → ℕ
times x [] = 0
times x (y ∷ ys) = (if x == y then 1 else 0) + times x ys

-- each element stands in one as often as in the other
abbrev pub IsOrderOf : List ℕ → List ℕ → Type 0
IsOrderOf xs order = (x : ℕ) → times x order ≡ times x xs

-- some order of the inputs ends in this state
abbrev pub EndsIn : List Row → List Tern → List Tern → Tern → List ℕ → Tern → Type 0
EndsIn rows old new state inputs end =
    (order : List ℕ) × IsOrderOf inputs order × (state_after rows new order old state ≡ end)

-- the set has the states that the orders of the inputs end in
abbrev pub AreEnds : List Row → List Tern → List Tern → Tern → List ℕ → States → Type 0
AreEnds rows old new state inputs states =
    (end : Tern) → IsTrue (has states end) ↔ EndsIn rows old new state inputs end

-- so it is at the place of each subset below this one
abbrev pub AreEndsBelow : List Row → List Tern → List Tern → Tern → List ℕ → List States → ℕ → Type 0
AreEndsBelow rows old new state changed places subset =
    (lower : ℕ) → lower < subset → AreEnds rows old new state (members changed lower) (slice_index_or places lower none)
