use Rattle.std.proofs.Common.{◌≡◌, drop}
use Rattle.liberty_reader.specs.Cells.{bad_column}
use Rattle.liberty_reader.proofs.cell.bad_column.Given as goal

abbrev pub invariant-loop-at : goal.invariant-loop-at
invariant-loop-at l = bad_column l.source l.args ≡ bad_column l.source (drop l.at l.args)
