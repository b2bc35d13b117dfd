use Rattle.std.proofs.Common.{◌≡◌}
use Rattle.correspondence.specs.Cover.{NoneCoversBefore}
use Rattle.correspondence.proofs.covering.cover.Given as goal

abbrev pub invariant-loop-i : goal.invariant-loop-i
invariant-loop-i l = (l.rows ≡ l.table.rows) × NoneCoversBefore l.i l.rows l.pins l.liberty l.udps l.nodes
