use Rattle.std.proofs.Common.{◌≡◌, length}
use Rattle.qual_core.specs.Command.{texts, are_options_of}
use Rattle.qual_core.proofs.command.are_options_of.Given as goal

abbrev pub invariant-loop-left : goal.invariant-loop-left
invariant-loop-left l = are_options_of l.name (texts l.pairs) ≡ are_options_of l.name (texts l.left)

abbrev pub decreases-loop-left : goal.decreases-loop-left
decreases-loop-left l = length l.left
