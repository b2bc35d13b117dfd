use Rattle.std.proofs.Common.{◌≡◌, ◌≤◌, ◌<◌, ◌+◌, ℕ, suc, length, List, sym, ◌∙◌, ap, subst, arith}
use Rattle.tern_core.specs.declared.tern.Tern.{Tern}
use Rattle.switch_response.specs.Walks.{IsResponse}
use Rattle.switch_response.specs.Network.{Network, all_values}
use Rattle.switch_run.specs.Waits.{Waits, none, more}
use Rattle.switch_run.proofs.Stays.{stays_until}
use Rattle.switch_run.proofs.waiting.wait.Goals as goal

pub loop-step-init : goal.loop-step-init
loop-step-init g c = record { waited = none; state = c.requires.state; scratch = c.requires.scratch; work = omega arith }

pub returns-in-None-clause-waited : goal.returns-in-None-clause-waited
returns-in-None-clause-waited g c =
    stays_until c.args.net.now c.args.pins.now c.args.state.now c.loop-step.state c.loop-step.step _ (omega (arith, c.loop-step-test.true)) c.loop-step.invariant.waited
    (subst (IsResponse c.args.net.now.net (all_values c.args.net.now c.loop-step.state c.args.pins.now)) c.in-None.ensures.change c.in-None.ensures.response)

-- one response more
longer : (w : Network) (pins old last next now : List Tern) (k : ℕ) → Waits w pins k old last → IsResponse w.net (all_values w last pins) next → now ≡ next → Waits w pins (k + 1) old now
longer w pins old last next now k h r e =
    let j : suc k ≡ k + 1 = omega arith in
    subst (λ j. Waits w pins j old now) j (subst (Waits w pins (suc k) old) (sym e) (more h r))

pub loop-step-preserved : goal.loop-step-preserved
loop-step-preserved g c = record {
  waited = longer c.args.net.now c.args.pins.now _ c.loop-step.state _ _ c.loop-step.step c.loop-step.invariant.waited c.first_change.ensures.response c.advance.ensures;
  state = ap length c.advance.ensures ∙ c.first_change.ensures.scratch.1;
  scratch = c.first_change.ensures.scratch;
  work = omega (arith, c.tick.ensures, c.loop-step.invariant.work);
}
