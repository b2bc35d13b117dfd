use Rattle.std.proofs.Common.{◌≡◌, ◌++◌, drop}
use Rattle.std.specs.Prelude.{map}
use Rattle.liberty_reader.specs.Cells.{pin}
use Rattle.liberty_reader.proofs.making.add_pins.Given as goal

abbrev pub invariant-loop-at : goal.invariant-loop-at
invariant-loop-at l = l.pins ++ map (pin l.source l.slots) (drop l.at l.args) ≡ l.initial.pins ++ map (pin l.source l.slots) l.args
