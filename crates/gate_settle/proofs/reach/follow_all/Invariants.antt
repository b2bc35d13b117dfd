use Rattle.std.proofs.Common.{◌≡◌, ◌<◌, ℕ, [], false, map}
use Rattle.gate_settle.specs.Search.{IsSearch, is_new, visit_at}
use Rattle.gate_settle.proofs.reach.follow_all.Given as goal

abbrev pub invariant-loop-net : goal.invariant-loop-net
invariant-loop-net l = record {
  search : IsSearch (map (λ v. v.items) l.rows) l.visits.items l.met [];
  met : (k : ℕ) → k < l.net → is_new (visit_at l.visits.items k) ≡ false;
}
