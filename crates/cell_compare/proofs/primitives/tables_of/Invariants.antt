use Rattle.std.proofs.Common.{take}
use Rattle.cell_compare.specs.Parts.{AreMade}
use Rattle.cell_compare.proofs.primitives.tables_of.Given as goal

abbrev pub invariant-loop-part : goal.invariant-loop-part
invariant-loop-part l = AreMade (take l.part-index l.parts) l.flaws l.tables
