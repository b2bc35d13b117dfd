use Rattle.std.proofs.Common.{map, take}
use Rattle.pin_tables.specs.Index.{IsIndexOf}
use Rattle.pin_tables.specs.Makers.{as_pin}
use Rattle.pin_tables.proofs.makers.names_of.Given as goal

abbrev pub invariant-loop-pin : goal.invariant-loop-pin
invariant-loop-pin l = IsIndexOf (map as_pin (take l.pin-index l.own)) l.names
