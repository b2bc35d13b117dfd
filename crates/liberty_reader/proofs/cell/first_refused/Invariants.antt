use Rattle.std.proofs.Common.{◌≡◌, drop, false}
use Rattle.liberty_reader.specs.Cells.{first_refused}
use Rattle.liberty_reader.proofs.cell.first_refused.Given as goal

abbrev pub invariant-loop-at : goal.invariant-loop-at
invariant-loop-at l = first_refused l.source false l.groups ≡ first_refused l.source l.second (drop l.at l.groups)
