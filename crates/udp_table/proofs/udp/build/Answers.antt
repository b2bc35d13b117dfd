use Rattle.std.proofs.Common.{refl, arith}
use Rattle.udp_table.proofs.RowsOf.{all_fit}
use Rattle.udp_table.proofs.udp.build.Goals as goal

pub first_conflict-requires : goal.first_conflict-requires
first_conflict-requires c = rw c.as_slice.ensures (all_fit _ _ _ _ c.in_ok-rows.ensures.ok)

pub returns-clause-built : goal.returns-clause-built
returns-clause-built c = record {
  few_inputs = omega arith;
  name = c.in_ok-copied.ensures;
  sequential = refl;
  inputs = refl;
  rows = c.in_ok-rows.ensures.ok;
  no_conflict = rw c.as_slice.ensures at c.in_default.ensures;
}
