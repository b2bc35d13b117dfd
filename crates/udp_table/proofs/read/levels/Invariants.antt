use Rattle.std.proofs.Common.{◌≡◌, ◌++◌, drop}
use Rattle.udp_table.specs.Reading.{levels_in, after_levels}
use Rattle.udp_table.proofs.read.levels.Given as goal

abbrev pub invariant-loop-place : goal.invariant-loop-place
invariant-loop-place l = record {
  levels : l.levels ++ levels_in (drop l.place l.letters) ≡ levels_in l.letters;
  behind : after_levels (drop l.place l.letters) ≡ after_levels l.letters;
}
