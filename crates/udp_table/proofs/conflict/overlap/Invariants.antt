use Rattle.std.proofs.Common.{◌≡◌, drop}
use Rattle.udp_table.specs.Overlaps.{all_overlap}
use Rattle.udp_table.proofs.conflict.overlap.Given as goal

abbrev pub invariant-loop-place : goal.invariant-loop-place
invariant-loop-place l = all_overlap (drop l.place l.symbols) (drop l.place l.others) ≡ all_overlap l.symbols l.others
