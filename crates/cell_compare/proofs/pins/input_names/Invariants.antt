use Rattle.std.proofs.Common.{◌≡◌, take}
use Rattle.cell_compare.specs.Pins.{names_of_inputs}
use Rattle.cell_compare.proofs.pins.input_names.Given as goal

abbrev pub invariant-loop-pin : goal.invariant-loop-pin
invariant-loop-pin l = l.names ≡ names_of_inputs (take l.pin-index l.pins)
