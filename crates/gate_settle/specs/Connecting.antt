-- When gates make a network, and why they make none.
use Rattle.std.specs.Prelude.{◌≡◌, ℕ, ◌<◌, ◌≤◌, List, length}
use Rattle.udp_table.specs.Table.{Table}
use Rattle.gate_settle.specs.declared.gate.Gate.{Gate}
use Rattle.gate_settle.specs.declared.gate.Given.{Given}
use Rattle.gate_settle.specs.declared.connecting.ConnectRefusal.{ConnectRefusal}
use Rattle.gate_settle.specs.declared.connecting.ConnectRefusal.TheVariants.{NoMemory, TwoDrivers, Loop}
use Rattle.gate_settle.specs.Order.{DependsOn, IsArrangementOf}
use Rattle.gate_settle.specs.Claims.{claims_on}
use Rattle.gate_settle.specs.Network.{Network}

-- no net of so many gets a value twice
abbrev pub HaveOneDriver : List Given → List Gate → ℕ → Type 0
HaveOneDriver given gates nets = (k : ℕ) → k < nets → claims_on given gates k ≤ 1

abbrev pub HaveNoLoop : List Gate → ℕ → Type 0
HaveNoLoop gates nets = (k : ℕ) → k < nets → DependsOn gates k k → ⊥

pub record IsConnected (given : List Given) (tables : List Table) (gates : List Gate) (state_nets : List ℕ) (network : Network) : Type 0 where
  pub same_given : network.given ≡ given
  pub same_tables : network.tables ≡ tables
  pub same_gates : IsArrangementOf gates network.gates
  pub same_states : network.state_nets ≡ state_nets
  pub one_driver : HaveOneDriver given gates (length given)
  pub no_loop : HaveNoLoop gates (length given)

abbrev pub IsNotConnected : List Given → List Gate → ConnectRefusal → Type 0
IsNotConnected given gates NoMemory = Unit {0}
IsNotConnected given gates (TwoDrivers n) = (n < length given) × (2 ≤ claims_on given gates n) × HaveOneDriver given gates n
IsNotConnected given gates (Loop n) = HaveOneDriver given gates (length given) × (n < length given) × DependsOn gates n n × HaveNoLoop gates n
