use Rattle.std.proofs.Common.{◌≡◌, drop}
use Rattle.gate_settle.specs.Claims.{claimed}
use Rattle.gate_settle.proofs.claims.claim.Given as goal

abbrev pub invariant-loop-output : goal.invariant-loop-output
invariant-loop-output l = claimed (drop l.output-index l.outputs) l.claims ≡ claimed l.outputs l.fn.claims
