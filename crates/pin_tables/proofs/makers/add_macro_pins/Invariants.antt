use Rattle.std.proofs.Common.{◌≡◌, ◌++◌, map, take}
use Rattle.pin_tables.specs.Makers.{macro_pin}
use Rattle.pin_tables.proofs.makers.add_macro_pins.Given as goal

abbrev pub invariant-loop-pin : goal.invariant-loop-pin
invariant-loop-pin l = l.pins.items ≡ l.initial.pins.items ++ map macro_pin (take l.pin-index l.own)
