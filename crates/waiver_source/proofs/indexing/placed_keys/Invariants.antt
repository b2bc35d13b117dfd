use Rattle.std.proofs.Common.{ℕ, ◌<◌}
use Rattle.std.specs.Prelude.{All}
use Rattle.waiver_source.specs.Index.{IsKeyOf, IsListed}
use Rattle.waiver_source.proofs.indexing.placed_keys.Given as goal

abbrev pub invariant-loop-place : goal.invariant-loop-place
invariant-loop-place l = record {
  own : All (IsKeyOf l.waivers) l.keys.items;
  listed : (place : ℕ) → place < l.place → IsListed l.keys.items place;
}
