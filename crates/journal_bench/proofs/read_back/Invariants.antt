use Rattle.report_journal.specs.Disks.{IsLeft}
use Rattle.journal_bench.proofs.read_back.Given as goal

abbrev pub invariant-loop-index : goal.invariant-loop-index
invariant-loop-index g l = IsLeft g.D.Disk.reads g.D.Disk.image l.disk l.journal
