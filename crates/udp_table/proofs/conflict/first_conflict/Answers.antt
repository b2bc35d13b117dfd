use Rattle.std.proofs.Common.{arith, inl, inr}
use Rattle.udp_table.proofs.Conflicting.{HasCases}
use Rattle.udp_table.proofs.FirstConflicts.{has_cases, no_cases, no_input, none_at_all, first_here, place_more}
use Rattle.udp_table.proofs.conflict.first_conflict.Goals as goal
use Rattle.udp_table.proofs.conflict.first_conflict.Goals.{else-sequential-via-then-sequential+else-inputs-eq0, else-sequential-via-else-sequential}

pub returns-then-inputs-eq0 : goal.returns-then-inputs-eq0
returns-then-inputs-eq0 c = no_cases _ _ _ (no_input _ _ c.if-sequential.true c.if-inputs-eq0.true)

pub returns-in-Some : goal.returns-in-Some
returns-in-Some c =
    let cases : HasCases c.args.sequential c.args.inputs = has_cases _ _ (elim c.else-sequential.branch [ else-sequential-via-then-sequential+else-inputs-eq0 w ↦ inr (omega arith) | else-sequential-via-else-sequential w ↦ inl w.if-sequential.false ]) in
    first_here _ _ _ _ _ cases c.requires c.loop-place.invariant c.in-Some.ensures

pub loop-place-preserved : goal.loop-place-preserved
loop-place-preserved c = place_more _ _ c.loop-place.invariant c.in_default.ensures

pub returns : goal.returns
returns c = none_at_all _ _ _ (λ i h. c.loop-place.invariant i (omega arith))
