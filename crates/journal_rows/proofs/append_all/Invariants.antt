use Rattle.report_journal.specs.Disks.{IsLeft}
use Rattle.journal_rows.proofs.append_all.Given as goal

abbrev pub invariant-loop-block : goal.invariant-loop-block
invariant-loop-block g l = IsLeft g.D.Disk.reads g.D.Disk.image l.disk l.journal
