use Rattle.std.proofs.Common.{◌≡◌, ◌++◌, map, take}
use Rattle.pin_tables.specs.Makers.{port_pin}
use Rattle.pin_tables.proofs.makers.add_ports.Given as goal

abbrev pub invariant-loop-port : goal.invariant-loop-port
invariant-loop-port l = l.pins.items ≡ l.initial.pins.items ++ map (port_pin l.known) (take l.port-index l.ports)
