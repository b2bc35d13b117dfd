use Rattle.liberty_function.proofs.Order.{function_more, name_more}
use Rattle.liberty_function.proofs.laws.monotone.Goals as goal

pub returns-clause-function : goal.returns-clause-function
returns-clause-function c = function_more

pub returns-clause-name : goal.returns-clause-name
returns-clause-name c = name_more
