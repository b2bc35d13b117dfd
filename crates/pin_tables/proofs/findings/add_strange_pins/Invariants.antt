use Rattle.std.proofs.Common.{take}
use Rattle.pin_tables.specs.Lookups.{Joins, strangers}
use Rattle.pin_tables.proofs.findings.add_strange_pins.Given as goal

abbrev pub invariant-loop-pin : goal.invariant-loop-pin
invariant-loop-pin l = Joins (strangers l.liberty (take l.pin-index l.pins)) l.initial.others l.others
