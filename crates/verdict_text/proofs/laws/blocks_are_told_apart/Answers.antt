use Rattle.verdict_text.proofs.Blocks.{told_apart}
use Rattle.verdict_text.proofs.laws.blocks_are_told_apart.Goals as goal

pub returns : goal.returns
returns c = told_apart
