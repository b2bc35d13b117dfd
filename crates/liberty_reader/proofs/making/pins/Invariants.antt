use Rattle.std.proofs.Common.{◌≡◌, ◌++◌, drop}
use Rattle.liberty_reader.specs.Cells.{pins}
use Rattle.liberty_reader.proofs.making.pins.Given as goal

abbrev pub invariant-loop-at : goal.invariant-loop-at
invariant-loop-at l = l.pins ++ pins l.source (drop l.at l.groups) ≡ pins l.source l.groups
