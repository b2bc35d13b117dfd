use Rattle.std.proofs.Common.{◌≡◌, drop}
use Rattle.liberty_meaning.specs.Cell.{unknown_internal}
use Rattle.liberty_meaning.proofs.cell.check_internals.Given as goal

abbrev pub invariant-loop-pin : goal.invariant-loop-pin
invariant-loop-pin l = unknown_internal l.nodes l.pins ≡ unknown_internal l.nodes (drop l.pin-index l.pins)
