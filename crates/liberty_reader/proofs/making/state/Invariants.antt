use Rattle.std.proofs.Common.{◌≡◌, drop}
use Rattle.liberty_source.specs.declared.StateGroup.TheVariants as states
use Rattle.liberty_reader.specs.Cells.{state}
use Rattle.liberty_reader.proofs.making.state.Given as goal

abbrev pub invariant-loop-at : goal.invariant-loop-at
invariant-loop-at l = state l.source (drop l.at l.groups) l.state ≡ state l.source l.groups states.Stateless
