use Rattle.cell_compare.proofs.Making.{one_more}
use Rattle.cell_compare.proofs.primitives.tables_of.Goals as goal

pub loop-part-preserved : goal.loop-part-preserved
loop-part-preserved c =
    one_more c.args.parts.now c.loop-part.part-index c.part-item.result c.loop-part.flaws c.loop-part.tables c.in_ok-table_or_flaw.field-0 c.add.new.flaws c.add.new.tables
    c.loop-part-test.true c.part-item.is c.loop-part.invariant c.in_ok-table_or_flaw.ensures c.in_ok-add.ensures.flaws c.in_ok-add.ensures.tables
