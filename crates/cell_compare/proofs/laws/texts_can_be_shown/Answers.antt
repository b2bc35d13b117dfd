use Rattle.cell_compare.proofs.Telling.{texts_told}
use Rattle.cell_compare.proofs.laws.texts_can_be_shown.Goals as goal

pub returns : goal.returns
returns c = texts_told
