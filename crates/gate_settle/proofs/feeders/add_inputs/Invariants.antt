use Rattle.std.proofs.Common.{◌≡◌, ℕ, drop}
use Rattle.std.specs.Prelude.{◌||◌}
use Rattle.gate_settle.specs.Gates.{is_among}
use Rattle.gate_settle.specs.Order.{is_input}
use Rattle.gate_settle.proofs.feeders.add_inputs.Given as goal

abbrev pub invariant-loop-input : goal.invariant-loop-input
invariant-loop-input l = (b : ℕ) → (is_among l.row.items b || is_input (drop l.input-index l.inputs) b) ≡ (is_among l.fn.row.items b || is_input l.inputs b)
