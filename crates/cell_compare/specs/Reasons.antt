-- What refusals are told as.
use Rattle.std.specs.Prelude.{◌≡◌, ℕ, List}
use Rattle.text_scan.specs.declared.limits.LimitKind.TheVariants.{UdpInputs}
use Rattle.liberty_meaning.specs.declared.refusal.MeaningRefusal.{MeaningRefusal}
use Rattle.liberty_meaning.specs.declared.refusal.MeaningRefusal.TheVariants as meanings
use Rattle.udp_table.specs.declared.refusal.UdpRefusal.{UdpRefusal}
use Rattle.udp_table.specs.declared.refusal.UdpRefusal.TheVariants as udps
use Rattle.module_net.specs.declared.refusal.GateRefusal.{GateRefusal}
use Rattle.module_net.specs.declared.refusal.GateRefusal.TheVariants as gates
use Rattle.verdict_text.specs.declared.reason.Reason.{Reason}
use Rattle.verdict_text.specs.declared.reason.Reason.TheVariants.{Construct, UnknownName, BadFunction, BadStateRow, UdpRow, UdpRows, Loop, TwoDrivers, UnknownUdp, PortCount, Limit}
use Rattle.verdict_text.specs.declared.finding.View.TheVariants.{Liberty, Verilog}
use Rattle.cell_compare.specs.declared.reasons.Flaw.{Flaw}
use Rattle.cell_compare.specs.declared.reasons.Flaw.TheVariants.{NotRead, BadRow, RowsConflict, TooManyInputs}

-- a cell that has no meaning
abbrev pub IsMeaningReason : MeaningRefusal → Reason → Type 0
IsMeaningReason meanings.NoMemory r = ⊥
IsMeaningReason (meanings.UnknownName name) r = r ≡ UnknownName name
IsMeaningReason (meanings.BadFunction owner place) r = r ≡ BadFunction owner place
IsMeaningReason (meanings.BadStateRow row) r = r ≡ BadStateRow row
IsMeaningReason (meanings.Construct word line) r = r ≡ Construct Liberty word line

-- a primitive whose table can't be built
abbrev pub IsFlaw : UdpRefusal → Flaw → Type 0
IsFlaw udps.NoMemory f = ⊥
IsFlaw (udps.BadRow row) f = f ≡ BadRow row
IsFlaw (udps.RowsConflict first second) f = f ≡ RowsConflict first second
IsFlaw (udps.TooManyInputs inputs) f = f ≡ TooManyInputs

-- how a primitive of this name is told
abbrev pub reason_of : List ℕ → Flaw → Reason
reason_of name (NotRead construct line) = Construct Verilog construct line
reason_of name (BadRow row) = UdpRow name row
reason_of name (RowsConflict first second) = UdpRows name first second
reason_of name TooManyInputs = Limit UdpInputs 10

-- elements that make no network
abbrev pub IsGateReason : GateRefusal → Reason → Type 0
IsGateReason gates.NoMemory r = ⊥
IsGateReason (gates.Loop net) r = r ≡ Loop net
IsGateReason (gates.TwoDrivers net) r = r ≡ TwoDrivers net
IsGateReason (gates.UnknownUdp name) r = r ≡ UnknownUdp name
IsGateReason (gates.PortCount label) r = r ≡ PortCount label
