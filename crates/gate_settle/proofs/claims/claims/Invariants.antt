use Rattle.std.proofs.Common.{◌≡◌, drop, take, map}
use Rattle.gate_settle.specs.Claims.{claim_of, claimed_by}
use Rattle.gate_settle.proofs.claims.claims.Given as goal

abbrev pub invariant-loop-value : goal.invariant-loop-value
invariant-loop-value l = l.claims.items ≡ map claim_of (take l.value-index l.fn.given)

abbrev pub invariant-gates : goal.invariant-gates
invariant-gates l = claimed_by (drop l.gate-index l.gates) l.claims.items ≡ claimed_by l.gates (map claim_of l.fn.given)
