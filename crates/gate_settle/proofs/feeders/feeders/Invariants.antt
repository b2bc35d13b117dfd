use Rattle.std.proofs.Common.{◌≡◌, ◌<◌, ℕ, drop, map, length}
use Rattle.std.specs.Prelude.{◌||◌}
use Rattle.gate_settle.specs.Order.{is_fed_by}
use Rattle.gate_settle.specs.Search.{is_edge}
use Rattle.gate_settle.proofs.feeders.feeders.Given as goal

abbrev pub invariant-loop-gate : goal.invariant-loop-gate
invariant-loop-gate l = record {
  count : length l.rows.items ≡ l.nets;
  edges : (a b : ℕ) → a < l.nets → (is_edge (map (λ v. v.items) l.rows.items) a b || is_fed_by (drop l.gate-index l.gates) a b) ≡ is_fed_by l.gates a b;
}
