use Rattle.std.proofs.Common.{◌≡◌, drop}
use Rattle.liberty_reader.specs.Cells.{bad_arg}
use Rattle.liberty_reader.proofs.cell.bad_arg.Given as goal

abbrev pub invariant-loop-at : goal.invariant-loop-at
invariant-loop-at l = bad_arg l.source l.args ≡ bad_arg l.source (drop l.at l.args)
