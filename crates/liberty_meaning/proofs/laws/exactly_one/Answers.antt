use Rattle.liberty_meaning.proofs.Exactly.{one_meaning, not_both}
use Rattle.liberty_meaning.proofs.laws.exactly_one.Goals as goal

pub returns-clause-same : goal.returns-clause-same
returns-clause-same c = one_meaning

pub returns-clause-refused : goal.returns-clause-refused
returns-clause-refused c = not_both
