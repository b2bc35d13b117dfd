-- Where a reader of a primitive can take an item.
use Rattle.verilog_primitives.specs.declared.udp_phase.UdpPhase.{UdpPhase}
use Rattle.verilog_primitives.specs.declared.udp_phase.UdpPhase.TheVariants as phases

-- the primitive hasn't ended
abbrev pub IsOpen : UdpPhase → Type 0
IsOpen phases.Done = ⊥
IsOpen _ = Unit {0}
