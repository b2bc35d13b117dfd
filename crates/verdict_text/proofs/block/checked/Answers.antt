use Rattle.std.proofs.Common.{◌≡◌, ◌∙◌, sym}
use Rattle.verdict_text.proofs.Checking.{is_checked}
use Rattle.verdict_text.proofs.block.checked.Goals as goal

pub returns-then-is : goal.returns-then-is
returns-then-is c = is_checked c.args.cell c.args.text.now (sym c.is_well_formed.ensures ∙ c.if-is_well_formed.true)
    (sym c.in_ok-block_lines.ensures ∙ c.is-then-is_well_formed.ensures.0 c.if-is.true) c.requires
