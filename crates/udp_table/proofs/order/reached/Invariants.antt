use Rattle.std.proofs.Common.{◌≡◌, ◌/◌, ◌^◌, drop}
use Rattle.udp_table.specs.Subsets.{none, gathered}
use Rattle.udp_table.proofs.order.reached.Given as goal

abbrev pub invariant-loop-place : goal.invariant-loop-place
invariant-loop-place l =
    gathered l.rows l.old l.levels l.places l.subset (drop l.place l.changed) (l.subset / 2 ^ l.place) (2 ^ l.place) l.reached ≡ gathered l.rows l.old l.levels l.places l.subset l.changed l.subset 1 none
