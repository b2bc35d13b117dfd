-- Where a reader of a file may stand, and before how many items.
use Rattle.std.specs.Prelude.{◌≡◌, ℕ, ◌≤◌, ◌+◌, false}
use Rattle.verilog_modules.specs.declared.module_phase.ModulePhase.{ModulePhase}
use Rattle.verilog_modules.specs.declared.module_phase.ModulePhase.TheVariants as module_phases
use Rattle.verilog_modules.specs.ModuleMoves as modules
use Rattle.verilog_primitives.specs.UdpMoves as udps
use Rattle.verilog_reader.specs.declared.file_text.Opened.TheVariants as openings
use Rattle.verilog_reader.specs.declared.file_phase.FilePhase.{FilePhase}
use Rattle.verilog_reader.specs.declared.file_phase.FilePhase.TheVariants as phases
use Rattle.verilog_reader.specs.declared.file_reader.FileReader.{FileReader}

-- before k of n items, a parenthesis is open where a delay is read, and no more are open than items were read
abbrev pub Sits : ℕ → ℕ → ModulePhase → Type 0
Sits n k (module_phases.Delay o depth) = (1 ≤ depth) × (depth + k ≤ n)
Sits n k _ = Unit {0}

-- the part that is read hasn't ended, and the line that is passed over is the last thing that has begun
abbrev pub IsLive : FilePhase → FileReader → Type 0
IsLive phases.Module m = modules.is_done m.module_reader.phase ≡ false
IsLive phases.Primitive m = udps.is_done m.udp_reader.phase ≡ false
IsLive (phases.Line line) m = m.text.opened ≡ openings.Line
IsLive _ m = Unit {0}
