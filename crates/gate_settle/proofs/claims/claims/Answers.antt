use Rattle.std.proofs.Common.{◌≡◌, [], map, sym, ◌∙◌, ap, slice_index, drop, arith}
use Rattle.std.proofs.lemmas.Grind.{common_steps}
use Rattle.gate_settle.specs.Claims.{claim_of, claimed_by}
use Rattle.gate_settle.proofs.Counting.{claims_at}
use Rattle.gate_settle.proofs.claims.claims.Goals as goal

pub returns-clause-each : goal.returns-clause-each
returns-clause-each c k lt =
    let rest : drop c.gates.gate-index c.args.gates.now ≡ [] = grind (arith, common_steps) in
    let all : c.gates.claims.items ≡ claimed_by c.args.gates.now (map claim_of c.args.given.now) = ap (λ gs. claimed_by gs c.gates.claims.items) (sym rest) ∙ c.gates.invariant in
    ap (λ xs. slice_index xs k) all ∙ claims_at c.args.given.now c.args.gates.now k lt
