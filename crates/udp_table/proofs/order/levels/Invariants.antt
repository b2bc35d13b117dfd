use Rattle.std.proofs.Common.{◌≡◌, ◌/◌, ◌^◌, length, take, drop}
use Rattle.udp_table.specs.Subsets.{members, levels_after}
use Rattle.udp_table.proofs.order.levels.Given as goal

abbrev pub invariant-loop-place : goal.invariant-loop-place
invariant-loop-place l = record {
  room : length l.levels ≡ 10;
  levels : levels_after (members (drop l.place l.changed) (l.subset / 2 ^ l.place)) l.new (take (length l.old) l.levels) ≡ levels_after (members l.changed l.subset) l.new l.old;
}
