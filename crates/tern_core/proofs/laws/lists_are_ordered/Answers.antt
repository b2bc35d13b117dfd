use Rattle.tern_core.proofs.Lists.{all_same, all_equal, all_through}
use Rattle.tern_core.proofs.laws.lists_are_ordered.Goals as goal

pub returns-clause-same : goal.returns-clause-same
returns-clause-same c = all_same

pub returns-clause-equal : goal.returns-clause-equal
returns-clause-equal c = all_equal

pub returns-clause-through : goal.returns-clause-through
returns-clause-through c = all_through
