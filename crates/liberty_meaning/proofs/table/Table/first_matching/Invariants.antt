use Rattle.std.proofs.Common.{◌≡◌, drop}
use Rattle.liberty_meaning.specs.Table as spec
use Rattle.liberty_meaning.proofs.table.Table.first_matching.Given as goal

abbrev pub invariant-loop-row : goal.invariant-loop-row
invariant-loop-row l = spec.first_matching l.self.columns l.old l.new l.state l.self.rows ≡ spec.first_matching l.self.columns l.old l.new l.state (drop l.row-index l.self.rows)
