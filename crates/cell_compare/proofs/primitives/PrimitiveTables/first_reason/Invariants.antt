use Rattle.std.proofs.Common.{◌≡◌, drop}
use Rattle.cell_compare.specs.Parts.{first_reason}
use Rattle.cell_compare.proofs.primitives.PrimitiveTables.first_reason.Given as goal

abbrev pub invariant-loop-element : goal.invariant-loop-element
invariant-loop-element l = first_reason l.self.names l.self.flaws (drop l.element-index l.elements) ≡ first_reason l.self.names l.self.flaws l.elements
