use Rattle.std.proofs.Common.{◌≡◌, subst}
use Rattle.verdict_text.specs.Told.{Tells}
use Rattle.verdict_text.proofs.Checking.{told_before}
use Rattle.verdict_text.proofs.block.told_result.Goals as goal

pub returns-in-len2-up : goal.returns-in-len2-up
returns-in-len2-up c = subst (λ o. Tells o c.told_lines.result) (told_before c.args.lines.now) c.told_lines.ensures
