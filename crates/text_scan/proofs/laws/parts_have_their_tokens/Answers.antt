use Rattle.text_scan.proofs.Moved.{first_part, both_parts}
use Rattle.text_scan.proofs.laws.parts_have_their_tokens.Goals as goal

pub returns-clause-first : goal.returns-clause-first
returns-clause-first c = first_part c.args.style c.args.text.now c.requires

pub returns-clause-both : goal.returns-clause-both
returns-clause-both c = both_parts c.args.style c.args.text.now c.args.more.now c.requires
