use Rattle.std.proofs.Common.{◌≡◌, take}
use Rattle.cdl_reader.specs.Pins.{IsLastFirst, directed}
use Rattle.cdl_reader.proofs.pins.directed.Given as goal

abbrev pub invariant-loop-pin : goal.invariant-loop-pin
invariant-loop-pin l = record {
  last : IsLastFirst l.told l.last_first.names l.last_first.directions;
  made : l.made ≡ directed l.told (take l.pin-index l.pins);
}
