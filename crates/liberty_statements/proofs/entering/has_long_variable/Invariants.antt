use Rattle.std.proofs.Common.{◌≡◌, drop}
use Rattle.liberty_statements.specs.Actions.{has_long_variable}
use Rattle.liberty_statements.proofs.entering.has_long_variable.Given as goal

abbrev pub invariant-loop-at : goal.invariant-loop-at
invariant-loop-at l = has_long_variable l.source l.limits l.tokens ≡ has_long_variable l.source l.limits (drop l.at l.tokens)
