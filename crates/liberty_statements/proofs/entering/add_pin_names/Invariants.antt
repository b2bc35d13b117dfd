use Rattle.std.proofs.Common.{◌≡◌, drop}
use Rattle.liberty_statements.specs.Actions.{add_pin_names}
use Rattle.liberty_statements.proofs.entering.add_pin_names.Given as goal

abbrev pub invariant-loop-at : goal.invariant-loop-at
invariant-loop-at l = add_pin_names l.source l.limits (drop l.at l.tokens) l.names ≡ add_pin_names l.source l.limits l.tokens l.initial.names
