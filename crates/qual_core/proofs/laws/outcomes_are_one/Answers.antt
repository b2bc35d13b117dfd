use Rattle.qual_core.proofs.OneOutcome.{one_outcome}
use Rattle.qual_core.proofs.laws.outcomes_are_one.Goals as goal

pub returns : goal.returns
returns c = one_outcome
