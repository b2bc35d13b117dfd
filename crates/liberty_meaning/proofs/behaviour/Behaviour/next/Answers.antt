use Rattle.std.proofs.Common.{◌∙◌, refl}
use Rattle.liberty_meaning.specs.Behaviour.{next_value_of}
use Rattle.liberty_meaning.proofs.Writing.{values_stay}
use Rattle.liberty_meaning.proofs.behaviour.Behaviour.next.Goals as goal

pub returns-in-Nothing : goal.returns-in-Nothing
unfolding next_value_of
returns-in-Nothing c = rw c.in-Nothing.is (values_stay c.args.state.now)

pub returns-in-Pair : goal.returns-in-Pair
unfolding next_value_of
returns-in-Pair c = c.write_pair.ensures ∙ (rw (c.in-Pair.is, c.next.ensures) refl)

pub returns-in-Rows : goal.returns-in-Rows
unfolding next_value_of
returns-in-Rows c = c.write_row.ensures ∙ (rw (c.in-Rows.is, c.first_matching.ensures) refl)
