use Rattle.std.proofs.Common.{sym, arith}
use Rattle.text_scan.specs.Pieces.{ends_liberty_word}
use Rattle.text_scan.proofs.Until.{until-here, until-all}
use Rattle.text_scan.proofs.search.until_liberty_word_end.Goals as goal

pub returns-then-ends_liberty_word-clause-value : goal.returns-then-ends_liberty_word-clause-value
returns-then-ends_liberty_word-clause-value c = sym (until-here ends_liberty_word c.args.text.now c.loop-i.i (omega arith) c.loop-i.invariant c.if-ends_liberty_word.ensures)

pub returns-clause-value : goal.returns-clause-value
returns-clause-value c = sym (until-all ends_liberty_word c.args.text.now c.loop-i.i (omega arith) c.loop-i.invariant)
