use Rattle.std.proofs.Common.{◌≡◌, ℕ, false, map}
use Rattle.gate_settle.specs.Search.{IsSearch, is_new, visit_at, piece_of, energy}
use Rattle.gate_settle.proofs.reach.follow.Given as goal

abbrev pub invariant-loop-top : goal.invariant-loop-top
invariant-loop-top l = record {
  search : IsSearch (map (λ v. v.items) l.rows) l.visits l.met (map piece_of l.parts.items);
  met : is_new (visit_at l.visits l.net) ≡ false;
  kept : (k : ℕ) → is_new (visit_at l.fn.visits k) ≡ false → is_new (visit_at l.visits k) ≡ false;
}

abbrev pub decreases-loop-top : goal.decreases-loop-top
decreases-loop-top l = energy (map (λ v. v.items) l.rows) l.visits (map piece_of l.parts.items)
