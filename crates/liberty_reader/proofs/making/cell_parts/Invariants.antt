use Rattle.std.proofs.Common.{◌≡◌, ◌++◌, drop}
use Rattle.std.specs.Prelude.{map}
use Rattle.liberty_reader.specs.Cells.{cell_part}
use Rattle.liberty_reader.proofs.making.cell_parts.Given as goal

abbrev pub invariant-loop-at : goal.invariant-loop-at
invariant-loop-at l = l.parts ++ map (cell_part l.source) (drop l.at l.cells) ≡ map (cell_part l.source) l.cells
