use Rattle.std.proofs.Common.{◌≡◌, ◌+◌, ◌-◌, ◌≤◌, length}
use Rattle.qual_core.specs.Command.{texts, place_from}
use Rattle.qual_core.proofs.command.place_in.Given as goal

abbrev pub invariant-loop-left : goal.invariant-loop-left
invariant-loop-left l =
    (length l.left ≤ length l.pairs)
    × (place_from 1 (texts l.pairs) l.wanted ≡ place_from (1 + (length l.pairs - length l.left)) (texts l.left) l.wanted)

abbrev pub decreases-loop-left : goal.decreases-loop-left
decreases-loop-left l = length l.left
