use Rattle.std.proofs.Common.{ℕ, ◌<◌, length}
use Rattle.udp_table.specs.Overlaps.{NoneFound}
use Rattle.udp_table.proofs.conflict.first_conflict.Given as goal

abbrev pub invariant-loop-place : goal.invariant-loop-place
invariant-loop-place l = (i : ℕ) → i < l.place → NoneFound l.rows i (length l.rows)
