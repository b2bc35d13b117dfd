use Rattle.std.proofs.Common.{◌≡◌, drop}
use Rattle.gate_settle.specs.Settled.{nets_after, states_after}
use Rattle.gate_settle.proofs.settle.advance.Given as goal

abbrev pub invariant-loop-gate : goal.invariant-loop-gate
invariant-loop-gate l = record {
  nets : nets_after l.tables l.old (drop l.gate-index l.gates) l.nets l.states ≡ nets_after l.tables l.old l.gates l.fn.nets l.fn.states;
  states : states_after l.tables l.old (drop l.gate-index l.gates) l.nets l.states ≡ states_after l.tables l.old l.gates l.fn.nets l.fn.states;
}
