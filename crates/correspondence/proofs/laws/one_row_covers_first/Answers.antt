use Rattle.correspondence.proofs.First.{one_first}
use Rattle.correspondence.proofs.laws.one_row_covers_first.Goals as goal

pub returns : goal.returns
returns c = one_first
