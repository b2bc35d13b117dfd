use Rattle.std.proofs.Common.{sym, arith}
use Rattle.text_scan.specs.Pieces.{begins_space}
use Rattle.text_scan.proofs.Until.{until-here, until-all}
use Rattle.cdl_cards.proofs.search.until_space.Goals as goal

pub returns-then-begins_space-clause-value : goal.returns-then-begins_space-clause-value
returns-then-begins_space-clause-value c = sym (until-here begins_space c.args.text.now c.loop-i.i (omega arith) c.loop-i.invariant c.if-begins_space.ensures)

pub returns-clause-value : goal.returns-clause-value
returns-clause-value c = sym (until-all begins_space c.args.text.now c.loop-i.i (omega arith) c.loop-i.invariant)
