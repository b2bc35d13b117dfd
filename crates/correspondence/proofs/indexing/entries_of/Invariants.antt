use Rattle.std.proofs.Common.{ℕ, ◌<◌}
use Rattle.std.specs.Prelude.{All}
use Rattle.correspondence.specs.Index.{IsEntryOf, IsListed}
use Rattle.correspondence.proofs.indexing.entries_of.Given as goal

abbrev pub invariant-loop-i : goal.invariant-loop-i
invariant-loop-i l = record {
  own : All (IsEntryOf l.rows) l.entries.items;
  listed : (place : ℕ) → place < l.i → IsListed l.entries.items place;
}
