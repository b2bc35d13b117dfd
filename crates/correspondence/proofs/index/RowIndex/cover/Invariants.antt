use Rattle.std.proofs.Common.{◌≡◌, ◌<◌, ℕ, Some}
use Rattle.std.specs.Prelude.{slice_get}
use Rattle.correspondence.specs.declared.entry.Entry.{Entry}
use Rattle.correspondence.proofs.Found.{EntryCoversNot}
use Rattle.correspondence.proofs.index.RowIndex.cover.Given as goal

abbrev pub invariant-loop-i : goal.invariant-loop-i
invariant-loop-i l = (j : ℕ) (e : Entry) → j < l.i → slice_get l.self.entries.items j ≡ Some e → EntryCoversNot l.table.rows l.pins l.liberty l.udps l.nodes e
