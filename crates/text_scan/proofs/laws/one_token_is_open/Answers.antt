use Rattle.text_scan.specs.Tokens.{start}
use Rattle.text_scan.proofs.Firm.{open-few}
use Rattle.text_scan.proofs.laws.one_token_is_open.Goals as goal

pub returns : goal.returns
returns c = open-few c.args.style start 0 c.args.text.now
