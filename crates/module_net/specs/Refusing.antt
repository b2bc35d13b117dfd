-- A refusal that is told.
use Rattle.std.specs.Prelude.{◌≡◌, ℕ, ◌<◌, List, Option, Some, slice_get}
use Rattle.gate_settle.specs.declared.connecting.ConnectRefusal.{ConnectRefusal}
use Rattle.gate_settle.specs.declared.connecting.ConnectRefusal.TheVariants as numbered
use Rattle.module_net.specs.declared.refusal.GateRefusal.{GateRefusal}
use Rattle.module_net.specs.declared.refusal.GateRefusal.TheVariants.{NoMemory, Loop, TwoDrivers, UnknownUdp, PortCount}

-- an element's refusal is this one, unless memory ran out
abbrev pub Tells : Option GateRefusal → GateRefusal → Type 0
Tells o NoMemory = Unit {0}
Tells o (Loop net) = ⊥
Tells o (TwoDrivers net) = ⊥
Tells o (UnknownUdp name) = o ≡ Some (UnknownUdp name)
Tells o (PortCount label) = o ≡ Some (PortCount label)

-- the net that is told is one of so many
abbrev pub IsPlaced : ℕ → ConnectRefusal → Type 0
IsPlaced n numbered.NoMemory = Unit {0}
IsPlaced n (numbered.TwoDrivers k) = k < n
IsPlaced n (numbered.Loop k) = k < n

-- the refusal tells the net's name
abbrev pub IsNamed : List (List ℕ) → ConnectRefusal → GateRefusal → Type 0
IsNamed nets refusal NoMemory = Unit {0}
IsNamed nets (numbered.TwoDrivers k) (TwoDrivers name) = slice_get nets k ≡ Some name
IsNamed nets (numbered.Loop k) (Loop name) = slice_get nets k ≡ Some name
IsNamed nets _ _ = ⊥
