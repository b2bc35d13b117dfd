use Rattle.std.proofs.Common.{◌≡◌, ◌++◌, drop}
use Rattle.liberty_meaning.specs.Names as spec
use Rattle.liberty_meaning.proofs.names.push_internals.Given as goal

abbrev pub invariant-loop-pin : goal.invariant-loop-pin
invariant-loop-pin l = l.fn.names ++ spec.internals_of l.nodes l.pins ≡ l.names ++ spec.internals_of l.nodes (drop l.pin-index l.pins)
