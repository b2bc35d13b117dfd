use Rattle.std.proofs.Common.{◌≡◌, drop}
use Rattle.liberty_statements.specs.Actions.{has_long_row}
use Rattle.liberty_statements.proofs.entering.has_long_row.Given as goal

abbrev pub invariant-loop-at : goal.invariant-loop-at
invariant-loop-at l = has_long_row l.source l.limits l.tokens ≡ has_long_row l.source l.limits (drop l.at l.tokens)
