use Rattle.std.proofs.Common.{◌≡◌, map, drop}
use Rattle.gate_settle.specs.Waiting.{woken, emptied}
use Rattle.gate_settle.proofs.order.wake.Given as goal

abbrev pub invariant-loop-output : goal.invariant-loop-output
invariant-loop-output l = record {
  rows : emptied (drop l.output-index l.outputs) (map (λ v. v.items) l.rows) ≡ emptied l.outputs (map (λ v. v.items) l.fn.rows);
  fresh : woken (drop l.output-index l.outputs) (map (λ v. v.items) l.rows) l.fresh.items ≡ woken l.outputs (map (λ v. v.items) l.fn.rows) l.fn.fresh.items;
}
