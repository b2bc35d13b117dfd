use Rattle.std.proofs.Common.{◌≡◌, ◌++◌, map, length}
use Rattle.std.specs.Prelude.{All}
use Rattle.waiver_source.specs.Index.{HasLatest, placed_of}
use Rattle.waiver_source.proofs.indexing.raised.Given as goal

abbrev pub invariant-loop-placed : goal.invariant-loop-placed
invariant-loop-placed l = record {
  whole : l.fn.keys.items ≡ l.yielded ++ l.placed-iterator.rest.items;
  long : length l.placed-iterator.rest.items ≡ l.placed-iterator.rest.len;
  same : map placed_of l.entries.items ≡ l.yielded;
  latest : All (HasLatest l.waivers) l.entries.items;
}
