use Rattle.std.proofs.Common.{◌≡◌, map, take, ◌++◌}
use Rattle.pin_tables.specs.Lookups.{at_first_pins}
use Rattle.pin_tables.specs.Tables.{name_of}
use Rattle.pin_tables.proofs.findings.add_liberty.Given as goal

abbrev pub invariant-loop-pin : goal.invariant-loop-pin
invariant-loop-pin l =
    (l.seen ≡ map name_of (take l.pin-index l.pins))
    × (l.found.items ≡ l.initial.found.items ++ at_first_pins l.lookups (take l.pin-index l.pins))
