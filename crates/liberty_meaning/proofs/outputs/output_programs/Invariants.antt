use Rattle.std.proofs.Common.{take}
use Rattle.liberty_meaning.specs.Names.{output_pins}
use Rattle.liberty_meaning.specs.Meaning.{OutputsAre}
use Rattle.liberty_meaning.proofs.outputs.output_programs.Given as goal

abbrev pub invariant-loop-pin : goal.invariant-loop-pin
invariant-loop-pin l = OutputsAre l.scope l.nodes (output_pins (take l.pin-index l.pins)) l.programs
