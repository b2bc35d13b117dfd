use Rattle.std.proofs.Common.{◌≡◌, ◌++◌, take}
use Rattle.std.specs.List.{flat_map}
use Rattle.pin_tables.specs.Makers.{cell_pin}
use Rattle.pin_tables.proofs.makers.add_cell_pins.Given as goal

abbrev pub invariant-loop-pin : goal.invariant-loop-pin
invariant-loop-pin l = l.pins.items ≡ l.initial.pins.items ++ flat_map cell_pin (take l.pin-index l.own)
