use Rattle.std.proofs.Common.{◌≡◌, ◌≤◌, ◌++◌, drop}
use Rattle.module_net.specs.Elements.{gates_from}
use Rattle.module_net.proofs.gates.gates_of.Given as goal

abbrev pub invariant-loop-place : goal.invariant-loop-place
invariant-loop-place l = record {
  gates : l.gates.items ++ gates_from l.primitives l.used l.nets l.place l.state (drop l.place l.elements) ≡ gates_from l.primitives l.used l.nets 0 0 l.elements;
  few : l.state ≤ l.place;
}
