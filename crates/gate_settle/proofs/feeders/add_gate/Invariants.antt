use Rattle.std.proofs.Common.{◌≡◌, ◌<◌, ℕ, drop, map, length}
use Rattle.std.specs.Prelude.{◌&&◌, ◌||◌}
use Rattle.gate_settle.specs.Gates.{is_among}
use Rattle.gate_settle.specs.Order.{is_input}
use Rattle.gate_settle.specs.Search.{is_edge}
use Rattle.gate_settle.proofs.feeders.add_gate.Given as goal

abbrev pub invariant-loop-output : goal.invariant-loop-output
invariant-loop-output l = (a b : ℕ) → a < length l.fn.rows
    → (is_edge (map (λ v. v.items) l.rows) a b || (is_among (drop l.output-index l.gate.outputs) a && is_input l.gate.inputs b)) ≡ (is_edge (map (λ v. v.items) l.fn.rows) a b || (is_among l.gate.outputs a && is_input l.gate.inputs b))
