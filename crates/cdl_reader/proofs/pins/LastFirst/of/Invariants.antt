use Rattle.std.proofs.Common.{◌≡◌, ◌-◌, drop, map}
use Rattle.cdl_reader.specs.Pins.{flipped, told_pin, told_direction}
use Rattle.cdl_reader.proofs.pins.LastFirst.of.Given as goal

abbrev pub invariant-loop-i : goal.invariant-loop-i
invariant-loop-i l = record {
  names : l.names ≡ map told_pin (flipped (drop (l.count - l.i) l.told));
  directions : l.directions ≡ map told_direction (flipped (drop (l.count - l.i) l.told));
}
