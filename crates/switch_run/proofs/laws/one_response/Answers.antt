use Rattle.switch_response.proofs.Order.{one_response}
use Rattle.switch_run.proofs.laws.one_response.Goals as goal

pub returns : goal.returns
returns c = one_response
