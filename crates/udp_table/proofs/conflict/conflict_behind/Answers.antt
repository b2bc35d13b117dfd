use Rattle.std.proofs.Common.{sym, ◌∙◌}
use Rattle.udp_table.proofs.FirstConflicts.{behind_more}
use Rattle.udp_table.proofs.conflict.conflict_behind.Goals as goal

pub loop-other-preserved : goal.loop-other-preserved
loop-other-preserved c =
    behind_more _ _ _ _ _ c.loop-other.invariant c.requires c.loop-other-test.true c.index-rows-place.is c.index-rows-other.is (sym c.conflicts.ensures ∙ c.if-conflicts.false)
