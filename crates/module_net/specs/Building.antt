-- When a module's elements make a network of gates, and why they make none.
use Rattle.std.specs.Prelude.{◌≡◌, ℕ, List, map, Some, None}
use Rattle.std.specs.List.{slice_get}
use Rattle.tern_core.specs.declared.tern.Tern.{Tern}
use Rattle.verilog_source.specs.declared.module.Module.{Module}
use Rattle.udp_table.specs.Table.{Table}
use Rattle.gate_settle.specs.declared.gate.Given.{Given}
use Rattle.gate_settle.specs.declared.gate.Gate.{Gate}
use Rattle.gate_settle.specs.declared.connecting.ConnectRefusal.TheVariants as numbered
use Rattle.gate_settle.specs.Connecting.{IsConnected, IsNotConnected}
use Rattle.gate_settle.specs.Network.{Network}
use Rattle.module_net.specs.declared.refusal.GateRefusal.{GateRefusal}
use Rattle.module_net.specs.declared.refusal.GateRefusal.TheVariants.{NoMemory, Loop, TwoDrivers, UnknownUdp, PortCount}
use Rattle.module_net.specs.Naming.{nets_of}
use Rattle.module_net.specs.Elements.{first_refused, used_in, tables_of, gates_from, state_nets_of}
use Rattle.module_net.specs.Outside.{given_of}

-- a network whose nets have names
pub record NamedNetwork : Type 0 where
  pub names : List (List ℕ)
  pub network : Network

abbrev pub givens_of : Module → List (List ℕ) → List (List ℕ × Tern) → List Given
givens_of m inputs supplies = map (given_of m inputs supplies) (nets_of m)

abbrev pub gates_of : Module → List Table → List Gate
gates_of m tables = gates_from tables (used_in m.elements) (nets_of m) 0 0 m.elements

-- the module's network, with its nets by first appearance
pub record IsNetOf (m : Module) (tables : List Table) (inputs : List (List ℕ)) (supplies : List (List ℕ × Tern)) (net : NamedNetwork) : Type 0 where
  pub elements : first_refused tables m.elements ≡ None
  pub names : net.names ≡ nets_of m
  pub connected : IsConnected (givens_of m inputs supplies) (tables_of tables (used_in m.elements)) (gates_of m tables) (state_nets_of tables (nets_of m) m.elements) net.network

-- Elements are refused first, in the order of the text; then the first net that gets a value twice; then the first that
-- depends on itself.
abbrev pub IsRefused : Module → List Table → List (List ℕ) → List (List ℕ × Tern) → GateRefusal → Type 0
IsRefused m tables inputs supplies NoMemory = Unit {0}
IsRefused m tables inputs supplies (UnknownUdp name) = first_refused tables m.elements ≡ Some (UnknownUdp name)
IsRefused m tables inputs supplies (PortCount label) = first_refused tables m.elements ≡ Some (PortCount label)
IsRefused m tables inputs supplies (TwoDrivers name) =
    (first_refused tables m.elements ≡ None) × ((k : ℕ) × (slice_get (nets_of m) k ≡ Some name) × IsNotConnected (givens_of m inputs supplies) (gates_of m tables) (numbered.TwoDrivers k))
IsRefused m tables inputs supplies (Loop name) =
    (first_refused tables m.elements ≡ None) × ((k : ℕ) × (slice_get (nets_of m) k ≡ Some name) × IsNotConnected (givens_of m inputs supplies) (gates_of m tables) (numbered.Loop k))
