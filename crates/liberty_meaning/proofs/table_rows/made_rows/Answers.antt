use Rattle.liberty_meaning.proofs.RowLemmas.{made_none, rows_step, rows_bad}
use Rattle.liberty_meaning.proofs.table_rows.made_rows.Goals as goal

pub loop-i-init : goal.loop-i-init
loop-i-init c = made_none _ _ _ c.new-rows.ensures

pub returns-then-not-branch : goal.returns-then-not-branch
returns-then-not-branch c = rows_bad c.args.inputs c.args.nodes c.args.texts.now c.loop-i.i c.told.result c.index-texts-i.result c.loop-i.rows _ c.in_ok-push_rows.field-0 c.loop-i-test.true c.index-texts-i.is c.loop-i.invariant (rw c.as_slice.ensures at c.in_ok-push_rows.ensures) c.if-not-branch.true c.told.ensures

pub loop-i-preserved : goal.loop-i-preserved
loop-i-preserved c = rows_step c.args.inputs c.args.nodes c.args.texts.now c.loop-i.i c.index-texts-i.result c.loop-i.rows _ c.in_ok-push_rows.field-0 c.loop-i-test.true c.index-texts-i.is c.loop-i.invariant (rw c.as_slice.ensures at c.in_ok-push_rows.ensures) c.if-not-branch.false
