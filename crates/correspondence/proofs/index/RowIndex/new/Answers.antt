use Rattle.std.proofs.Common.{subst}
use Rattle.correspondence.specs.Index.{AreEntriesOf}
use Rattle.correspondence.proofs.Listed.{permuted}
use Rattle.correspondence.proofs.index.RowIndex.new.Goals as goal

pub returns : goal.returns
returns c = record {
  entries = permuted c.args.table.now.rows c.in_ok-entries.entries.items c.sort.new.self.items c.in_ok-sort.ensures.permutation
      (subst (λ rows. AreEntriesOf rows c.in_ok-entries.entries.items) c.as_slice.ensures c.in_ok-entries.ensures);
  sorted = c.in_ok-sort.ensures.sorted;
}
