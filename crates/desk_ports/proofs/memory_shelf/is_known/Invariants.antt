use Rattle.std.proofs.Common.{◌≡◌, drop, map, string_bytes, Some}
use Rattle.desk_ports.specs.MemShelf.{is_expected}
use Rattle.desk_ports.proofs.memory_shelf.is_known.Given as goal

abbrev pub invariant-loop-known : goal.invariant-loop-known
invariant-loop-known l =
    is_expected (Some (map string_bytes l.names)) l.name ≡ is_expected (Some (map string_bytes (drop l.known-index l.names))) l.name
