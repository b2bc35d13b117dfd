-- A network, as its callers see it: its settled assignments, and its moves.
use Rattle.std.specs.Prelude.{◌≡◌, ℕ, List, map, length}
use Rattle.tern_core.specs.declared.tern.Tern.{Tern}
use Rattle.tern_core.specs.declared.tern.Tern.TheVariants.{Unknown}
use Rattle.udp_table.specs.Table.{Table}
use Rattle.gate_settle.specs.declared.gate.Gate.{Gate}
use Rattle.gate_settle.specs.declared.gate.Given.{Given}
use Rattle.gate_settle.specs.declared.gate.Given.TheVariants.{Pin, Fixed, Floating}
use Rattle.tern_core.specs.Order.{IsAtMost, AreAtMost}
use Rattle.gate_settle.specs.Gates.{value_at, table_value}
use Rattle.gate_settle.specs.Settled.{AreSettled, AreStatesMoved}

pub record Network : Type 0 where
  -- what each net has from outside the gates
  pub given : List Given
  pub tables : List Table
  pub gates : List Gate
  -- for each state the net that shows it
  pub state_nets : List ℕ

-- the value that a net has from outside, X where it has none
abbrev pub given_value : List Tern → Given → Tern
given_value pins (Pin k) = value_at pins k
given_value pins (Fixed v) = v
given_value pins Floating = Unknown

abbrev pub given_values : List Given → List Tern → List Tern
given_values given pins = map (given_value pins) given

-- A net that no gate drives has the value that it has from outside, X where it has none; each other net
-- has what its gate gives.
abbrev pub IsSettled : Network → List Tern → List Tern → List Tern → Type 0
IsSettled n pins states nets = AreSettled n.tables n.gates (given_values n.given pins) states nets

-- From old nets and states to new pins: the new nets are settled with the new pins and states, and each
-- new state is what its primitive makes of the change of its inputs from the old to the new nets.
pub record IsMoveOf (n : Network) (pins old_nets old_states new_nets new_states : List Tern) : Type 0 where
  pub settled : IsSettled n pins new_states new_nets
  pub states : AreStatesMoved n.tables old_nets old_states new_nets new_states n.gates
  pub count : length new_states ≡ length old_states

-- for given pins and states there is just one settled assignment
abbrev pub HasOneSettled : Network → Type 0
HasOneSettled n = (pins states : List Tern) → (nets : List Tern) × IsSettled n pins states nets × ((others : List Tern) → IsSettled n pins states others → others ≡ nets)

-- the combinational tables keep what was known, where more is known of their inputs
abbrev pub AreMonotone : List Table → Type 0
AreMonotone tables = (table : ℕ) (levels more_levels : List Tern) → AreAtMost levels more_levels → IsAtMost (table_value tables table levels) (table_value tables table more_levels)

-- what was known of the nets stays, where more is known of pins and states
abbrev pub KeepsKnown : Network → Type 0
KeepsKnown n = (pins more_pins states more_states nets more_nets : List Tern) → AreAtMost pins more_pins → AreAtMost states more_states
    → IsSettled n pins states nets → IsSettled n more_pins more_states more_nets → AreAtMost nets more_nets
