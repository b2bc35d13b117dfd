use Rattle.std.proofs.Common.{sym}
use Rattle.text_scan.proofs.Until.{until-byte-found, until-byte-none}
use Rattle.cdl_cards.proofs.search.until_line_end.Goals as goal

pub returns-in-Some-clause-value : goal.returns-in-Some-clause-value
returns-in-Some-clause-value c = sym (until-byte-found 10 c.args.text.now c.in-Some.n c.in-Some.ensures)

pub returns-in-None-clause-value : goal.returns-in-None-clause-value
returns-in-None-clause-value c = sym (until-byte-none 10 c.args.text.now c.in-None.ensures)
