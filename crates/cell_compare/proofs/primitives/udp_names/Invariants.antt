use Rattle.std.proofs.Common.{◌≡◌, map, take}
use Rattle.cell_compare.specs.Parts.{udp_name}
use Rattle.cell_compare.proofs.primitives.udp_names.Given as goal

abbrev pub invariant-loop-part : goal.invariant-loop-part
invariant-loop-part l = l.names ≡ map udp_name (take l.part-index l.parts)
