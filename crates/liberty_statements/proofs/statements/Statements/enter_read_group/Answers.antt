use Rattle.std.proofs.Common.{refl}
use Rattle.liberty_statements.specs.Actions.{enter_read_group, open_group}
use Rattle.liberty_statements.proofs.statements.Statements.enter_read_group.Goals as goal

pub returns-clause-does : goal.returns-clause-does
unfolding enter_read_group open_group
returns-clause-does c = let e = rw c.as_slice-args.ensures at c.in_ok-add_names.ensures in rw (e, c.open_group.ensures.does) refl
