use Rattle.liberty_meaning.proofs.TableLemmas.{begin_rows, whole_rows}
use Rattle.liberty_meaning.proofs.table_text.rows_of_text.Goals as goal

pub loop-byte-init : goal.loop-byte-init
loop-byte-init c = rw (c.new.ensures, c.new-2.ensures, c.new-3.ensures.items) (begin_rows c.args.text.now)

pub returns : goal.returns
returns c = whole_rows c.args.text.now c.loop-byte.byte-index _ _ _ _ _ _ c.loop-byte-test.false c.loop-byte.invariant c.in_ok-end_word.ensures.0 c.in_ok-end_word.ensures.1 c.in_ok-end_last_row.ensures
