use Rattle.std.proofs.Common.{◌≡◌, drop}
use Rattle.liberty_reader.specs.Cells.{slots_from, no_slots}
use Rattle.liberty_reader.proofs.cell.last_of.Given as goal

abbrev pub invariant-loop-at : goal.invariant-loop-at
invariant-loop-at l = slots_from l.attributes no_slots ≡ slots_from (drop l.at l.attributes) l.slots
