use Rattle.switch_response.proofs.Order.{monotone, monotone_state}
use Rattle.switch_run.proofs.laws.monotone.Goals as goal

pub returns-clause-states : goal.returns-clause-states
returns-clause-states c = monotone_state

pub returns-clause-values : goal.returns-clause-values
returns-clause-values c = monotone
