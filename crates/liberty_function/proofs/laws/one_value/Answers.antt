use Rattle.liberty_function.proofs.OneValue.{one_value, bad_spells_nothing}
use Rattle.liberty_function.proofs.laws.one_value.Goals as goal

pub returns-clause-same : goal.returns-clause-same
returns-clause-same c = one_value

pub returns-clause-refused : goal.returns-clause-refused
returns-clause-refused c = bad_spells_nothing
