use Rattle.std.proofs.Common.{◌≡◌, map, take}
use Rattle.pin_tables.specs.Tables.{name_of}
use Rattle.pin_tables.proofs.lookup.names_of.Given as goal

abbrev pub invariant-loop-pin : goal.invariant-loop-pin
invariant-loop-pin l = l.names ≡ map name_of (take l.pin-index l.pins)
