use Rattle.report_journal.specs.Disks.{IsLeft}
use Rattle.journal_bench.proofs.append_up_to.Given as goal

abbrev pub invariant-loop-i : goal.invariant-loop-i
invariant-loop-i g l = IsLeft g.D.Disk.reads g.D.Disk.image l.disk l.journal
