use Rattle.std.proofs.Common.{◌≡◌, ◌<◌, ℕ, length, slice_index}
use Rattle.switch_response.proofs.stack.Stack.fill.Given as goal

abbrev pub invariant-loop-node : goal.invariant-loop-node
invariant-loop-node l = record {
  filled : (k : ℕ) → k < l.node → slice_index l.self-inside.nodes.items k ≡ k;
  length : length l.self-inside.nodes.items ≡ l.fn.self.capacity;
}
