use Rattle.std.proofs.Common.{◌≡◌, map, take}
use Rattle.cell_compare.specs.Parts.{module_name}
use Rattle.cell_compare.proofs.models.module_names.Given as goal

abbrev pub invariant-loop-part : goal.invariant-loop-part
invariant-loop-part l = l.names ≡ map module_name (take l.part-index l.parts)
