use Rattle.std.proofs.Common.{◌≡◌, ◌≤◌, take, length}
use Rattle.liberty_meaning.specs.Names.{input_pins}
use Rattle.liberty_meaning.proofs.names.input_count.Given as goal

abbrev pub invariant-loop-pin : goal.invariant-loop-pin
invariant-loop-pin l = (l.count ≡ length (input_pins (take l.pin-index l.pins))) × (l.count ≤ l.pin-index)
