use Rattle.std.proofs.Common.{sym, arith}
use Rattle.text_scan.specs.Bytes.{is_space}
use Rattle.text_scan.specs.Pieces.{ends_run}
use Rattle.text_scan.proofs.Until.{until-here, until-all}
use Rattle.cdl_cards.proofs.search.until_word.Goals as goal

pub returns-then-begins_word-clause-value : goal.returns-then-begins_word-clause-value
returns-then-begins_word-clause-value c = sym (until-here (ends_run is_space) c.args.text.now c.loop-i.i (omega arith) c.loop-i.invariant c.if-begins_word.ensures)

pub returns-clause-value : goal.returns-clause-value
returns-clause-value c = sym (until-all (ends_run is_space) c.args.text.now c.loop-i.i (omega arith) c.loop-i.invariant)
