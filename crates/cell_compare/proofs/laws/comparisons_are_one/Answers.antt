use Rattle.cell_compare.proofs.OneComparison.{one_comparison}
use Rattle.cell_compare.proofs.laws.comparisons_are_one.Goals as goal

pub returns : goal.returns
returns c = one_comparison
