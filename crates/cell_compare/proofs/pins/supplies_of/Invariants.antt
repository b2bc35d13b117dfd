use Rattle.std.proofs.Common.{◌≡◌, take}
use Rattle.cell_compare.specs.Pins.{own_supplies}
use Rattle.cell_compare.proofs.pins.supplies_of.Given as goal

abbrev pub invariant-loop-pin : goal.invariant-loop-pin
invariant-loop-pin l = l.supplies ≡ own_supplies (take l.pin-index l.pins)
