use Rattle.cell_compare.proofs.Equal.{equal_part}
use Rattle.cell_compare.proofs.laws.equal_means_equal.Goals as goal

pub returns : goal.returns
returns c = equal_part
