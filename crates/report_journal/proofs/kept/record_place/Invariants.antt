use Rattle.std.proofs.Common.{◌≡◌, ◌≤◌, ◌<◌, ◌+◌, ◌*◌, List, ℕ, length, take}
use Rattle.desk_ports.specs.Disk.{Known, Untouched}
use Rattle.desk_ports.specs.DiskSpent.{Spends}
use Rattle.report_journal.specs.Image.{plain_head, records, StandsFor}
use Rattle.report_journal.proofs.kept.record_place.Given as goal

abbrev pub invariant-loop-i : goal.invariant-loop-i
invariant-loop-i g l = record {
  near : l.place ≤ 41 + 1048581 * l._i;
  untouched : Untouched g.D.Disk.reads g.D.Disk.image g.D.Disk.moment g.D.Disk.image_since l.initial.disk l.disk;
  faults : g.D.Disk.faults l.disk ≡ g.D.Disk.faults l.initial.disk;
  at : Known (g.D.Disk.reads l.initial.disk) (λ bytes. (key : List ℕ) (blocks : List (List ℕ)) → StandsFor key bytes blocks
      → l.index < length blocks → l.place ≡ 41 + length (records plain_head (take l._i blocks)));
  spends : Known (g.D.Disk.reads l.initial.disk) (λ bytes. Spends g.D.Disk.fails g.D.Disk.asked g.D.Disk.most l.initial.disk l.disk l._i 0 0);
}
