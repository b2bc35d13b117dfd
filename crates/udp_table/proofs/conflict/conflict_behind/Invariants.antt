use Rattle.udp_table.specs.Overlaps.{NoneFound}
use Rattle.udp_table.proofs.conflict.conflict_behind.Given as goal

abbrev pub invariant-loop-other : goal.invariant-loop-other
invariant-loop-other l = NoneFound l.rows l.place l.other
