use Rattle.std.proofs.Common.{ℕ, ◌<◌, ◌≤◌}
use Rattle.gate_settle.specs.Claims.{claims_on}
use Rattle.gate_settle.proofs.claims.contested.Given as goal

abbrev pub invariant-loop-net : goal.invariant-loop-net
invariant-loop-net l = (k : ℕ) → k < l.net → claims_on l.given l.gates k ≤ 1
