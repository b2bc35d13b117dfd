use Rattle.std.proofs.Common.{◌≡◌, ◌≤◌, Some, IsTrue, is_some, length, ◌+◌, ◌-◌, ◌++◌, vec_len}
use Rattle.desk_ports.specs.Asked.{AsksOnce}
use Rattle.desk_ports.proofs.reading.read_file.Given as goal

abbrev pub invariant-loop-room : goal.invariant-loop-room
invariant-loop-room g l =
    let S = g.S.Shelf in
    record {
      room : length l.room ≡ 4096;
      started : IsTrue (S.started l.shelf);
      files : S.file l.shelf ≡ S.file l.fn.shelf;
      fails : S.fails l.shelf ≡ S.fails l.fn.shelf;
      expects : S.expects l.shelf ≡ S.expects l.fn.shelf;
      faults : S.faults l.shelf ≡ S.faults l.fn.shelf;
      whole : IsTrue S.tells → S.file l.fn.shelf l.fn.name ≡ Some (l.bytes.items ++ S.left l.shelf);
      since : IsTrue S.tells → (S.asked l.shelf).since ≤ vec_len l.bytes;
      asked : IsTrue S.tells → AsksOnce (is_some (S.file l.fn.shelf l.fn.name)) (S.expects l.fn.shelf l.fn.name) l.max (S.asked l.fn.shelf) (S.asked l.shelf);
    }

abbrev pub decreases-loop-room : goal.decreases-loop-room
decreases-loop-room g l = l.max + 1 - vec_len l.bytes
