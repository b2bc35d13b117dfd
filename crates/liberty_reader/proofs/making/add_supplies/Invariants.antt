use Rattle.std.proofs.Common.{◌≡◌, ◌++◌, drop}
use Rattle.std.specs.Prelude.{map}
use Rattle.liberty_reader.specs.Cells.{supply}
use Rattle.liberty_reader.proofs.making.add_supplies.Given as goal

abbrev pub invariant-loop-at : goal.invariant-loop-at
invariant-loop-at l = l.pins ++ map (supply l.source l.slots) (drop l.at l.args) ≡ l.initial.pins ++ map (supply l.source l.slots) l.args
