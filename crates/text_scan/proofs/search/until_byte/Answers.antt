use Rattle.std.proofs.Common.{sym}
use Rattle.text_scan.proofs.Until.{until-byte-found, until-byte-none}
use Rattle.text_scan.proofs.search.until_byte.Goals as goal

pub returns-in-Some-clause-value : goal.returns-in-Some-clause-value
returns-in-Some-clause-value c = sym (until-byte-found c.args.byte c.args.text.now c.in-Some.n c.in-Some.ensures)

pub returns-in-None-clause-value : goal.returns-in-None-clause-value
returns-in-None-clause-value c = sym (until-byte-none c.args.byte c.args.text.now c.in-None.ensures)
