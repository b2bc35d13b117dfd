use Rattle.std.proofs.Common.{◌≡◌, ◌+◌, ℕ, List, Bool, length}
use Rattle.std.specs.Prelude.{sum_by}
use Rattle.gate_settle.specs.declared.gate.Gate.{Gate}
use Rattle.gate_settle.specs.Waiting.{gates_in, AllScanned}
use Rattle.gate_settle.proofs.order.at_first_input.Given as goal

abbrev pub invariant-loop-gate : goal.invariant-loop-gate
invariant-loop-gate l = record {
  gates : (f : Gate → ℕ) → gates_in f l.fresh.items + sum_by f l.gates.items ≡ sum_by f l.fn.gates.items;
  scanned : (known : List Bool) → AllScanned known l.fresh.items;
}

abbrev pub decreases-loop-gate : goal.decreases-loop-gate
decreases-loop-gate l = length l.gates.items
