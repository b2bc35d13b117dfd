use Rattle.std.proofs.Common.{◌≡◌, length}
use Rattle.qual_core.specs.Names.{is_among}
use Rattle.qual_core.specs.Command.{texts, options}
use Rattle.qual_core.proofs.command.has_option.Given as goal

abbrev pub invariant-loop-left : goal.invariant-loop-left
invariant-loop-left l = is_among (options (texts l.pairs)) l.wanted ≡ is_among (options (texts l.left)) l.wanted

abbrev pub decreases-loop-left : goal.decreases-loop-left
decreases-loop-left l = length l.left
