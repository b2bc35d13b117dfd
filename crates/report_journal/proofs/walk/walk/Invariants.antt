use Rattle.std.proofs.Common.{◌≡◌, ◌≤◌, ◌+◌, ◌*◌}
use Rattle.desk_ports.specs.Disk.{Known, Untouched}
use Rattle.desk_ports.specs.DiskSpent.{Spends}
use Rattle.report_journal.proofs.Walking.{WalkedTo}
use Rattle.report_journal.proofs.walk.walk.Given as goal

abbrev pub invariant-loop-count : goal.invariant-loop-count
invariant-loop-count g l = record {
  few : l.count ≤ 4096;
  near : l.place ≤ 41 + 1048581 * l.count;
  untouched : Untouched g.D.Disk.reads g.D.Disk.image g.D.Disk.moment g.D.Disk.image_since l.initial.disk l.disk;
  faults : g.D.Disk.faults l.disk ≡ g.D.Disk.faults l.initial.disk;
  walked : Known (g.D.Disk.reads l.initial.disk) (λ bytes. WalkedTo bytes l.count l.place);
  spends : Known (g.D.Disk.reads l.initial.disk) (λ bytes. Spends g.D.Disk.fails g.D.Disk.asked g.D.Disk.most l.initial.disk l.disk l.count 0 0);
}
