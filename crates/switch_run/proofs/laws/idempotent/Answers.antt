use Rattle.switch_run.proofs.Again.{idempotent}
use Rattle.switch_run.proofs.laws.idempotent.Goals as goal

pub returns : goal.returns
returns c = idempotent
