-- How ports are held: in their order, and their names in the same order.
use Rattle.std.specs.Prelude.{◌≡◌, List}
use Rattle.verilog_source.specs.declared.module.Port.{Port}
use Rattle.verilog_modules.specs.Ports.{names_of}
use Rattle.verilog_modules.specs.declared.ports.Ports.TheInside.{Inside}

abbrev pub ports_of : Inside → List Port
ports_of a = a.ports.items

abbrev pub IsHeld : Inside → Type 0
IsHeld a = a.names ≡ names_of a.ports.items
