use Rattle.text_scan.proofs.Moved.{split}
use Rattle.text_scan.proofs.laws.firm_tokens_stay.Goals as goal

pub returns : goal.returns
returns c = split c.args.style c.args.text.now c.args.more.now
