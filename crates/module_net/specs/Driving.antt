-- Why a module makes no network, by the names of its nets alone: a net that gets a value twice, and one that depends on
-- itself.
use Rattle.std.specs.Prelude.{◌≡◌, ℕ, ◌+◌, ◌<◌, ◌≤◌, Bool, true, false, ◌&&◌, ◌||◌, if◌then◌else◌, List, [], ◌∷◌, Some, None, slice_get}
use Rattle.std.specs.List.{list_any}
use Rattle.tern_core.specs.declared.tern.Tern.{Tern}
use Rattle.verilog_source.specs.declared.module.Module.{Module}
use Rattle.verilog_source.specs.declared.module.Element.{Element}
use Rattle.verilog_source.specs.declared.module.Terminal.{Terminal}
use Rattle.udp_table.specs.Table.{Table}
use Rattle.gate_settle.specs.Claims.{claim_of}
use Rattle.name_index.specs.Places.{is_known}
use Rattle.module_net.specs.declared.refusal.GateRefusal.{GateRefusal}
use Rattle.module_net.specs.declared.refusal.GateRefusal.TheVariants.{NoMemory, Loop, TwoDrivers, UnknownUdp, PortCount}
use Rattle.module_net.specs.Naming.{nets_of}
use Rattle.module_net.specs.Elements.{first_refused, input_terminals, output_terminals}
use Rattle.module_net.specs.Outside.{given_of}
use Rattle.module_net.specs.Meaning.{is_of}

-- how many of the terminals are the net of this name
abbrev pub places_of : List ℕ → List Terminal → ℕ
places_of name [] = 0
places_of name (t ∷ terminals) = (if is_of name t then 1 else 0) + places_of name terminals

-- how many outputs of elements the net is
abbrev pub outputs_on : List ℕ → List Element → ℕ
outputs_on name [] = 0
outputs_on name (e ∷ elements) = places_of name (output_terminals e) + outputs_on name elements

-- how often the net gets a value, from outside and from elements
abbrev pub values_on : Module → List (List ℕ) → List (List ℕ × Tern) → List ℕ → ℕ
values_on m inputs supplies name = claim_of (given_of m inputs supplies name) + outputs_on name m.elements

-- an element has the one net at an output, and the other at an input
abbrev pub is_fed : List ℕ → List ℕ → List Element → Bool
is_fed name other [] = false
is_fed name other (e ∷ elements) = list_any (is_of name) (output_terminals e) && list_any (is_of other) (input_terminals e) || is_fed name other elements

-- a net depends on another one, through elements of every kind
pub data NetDependsOn (elements : List Element) : List ℕ → List ℕ → Type 0 where
  at_once : {name other : List ℕ} → is_fed name other elements ≡ true → NetDependsOn elements name other
  by_way : {name between other : List ℕ} → is_fed name between elements ≡ true → NetDependsOn elements between other → NetDependsOn elements name other

-- the first of the names of which this holds
abbrev pub IsFirst : (List ℕ → Type 0) → List (List ℕ) → List ℕ → Type 0
IsFirst P names name = (k : ℕ) × (slice_get names k ≡ Some name) × P name × ((j : ℕ) (other : List ℕ) → j < k → slice_get names j ≡ Some other → P other → ⊥)

abbrev pub GetOneValue : Module → List (List ℕ) → List (List ℕ × Tern) → Type 0
GetOneValue m inputs supplies = (name : List ℕ) → is_known name (nets_of m) ≡ true → values_on m inputs supplies name ≤ 1

abbrev pub IsRefusedModule : Module → List Table → List (List ℕ) → List (List ℕ × Tern) → GateRefusal → Type 0
IsRefusedModule m tables inputs supplies NoMemory = Unit {0}
IsRefusedModule m tables inputs supplies (UnknownUdp name) = first_refused tables m.elements ≡ Some (UnknownUdp name)
IsRefusedModule m tables inputs supplies (PortCount label) = first_refused tables m.elements ≡ Some (PortCount label)
IsRefusedModule m tables inputs supplies (TwoDrivers name) =
    (first_refused tables m.elements ≡ None) × IsFirst (λ n. 2 ≤ values_on m inputs supplies n) (nets_of m) name
IsRefusedModule m tables inputs supplies (Loop name) =
    (first_refused tables m.elements ≡ None) × GetOneValue m inputs supplies × IsFirst (λ n. NetDependsOn m.elements n n) (nets_of m) name

-- no element is refused, no net gets a value twice and none depends on itself
abbrev pub IsAcceptedModule : Module → List Table → List (List ℕ) → List (List ℕ × Tern) → Type 0
IsAcceptedModule m tables inputs supplies =
    (first_refused tables m.elements ≡ None) × GetOneValue m inputs supplies × ((name : List ℕ) → is_known name (nets_of m) ≡ true → NetDependsOn m.elements name name → ⊥)
