use Rattle.std.proofs.Common.{◌∙◌, ◌++◌, sym, ap}
use Rattle.std.proofs.lemmas.List.{append-nil}
use Rattle.liberty_meaning.proofs.Naming.{state_here, states_end, one_on}
use Rattle.liberty_meaning.proofs.names.push_states.Goals as goal

pub loop-k-preserved : goal.loop-k-preserved
loop-k-preserved c =
    one_on _ c.loop-k.names _ _ _ (rw (state_here c.loop-k.k c.args.variables.now c.loop-k.k c.index-variables-k.result c.loop-k-test.true c.index-variables-k.is) at c.loop-k.invariant) (rw c.as_bytes.ensures at c.in_ok-push.ensures.ok)

pub returns : goal.returns
returns c = sym (c.loop-k.invariant ∙ ap (λ k. c.loop-k.names ++ k) (states_end c.loop-k.k c.args.variables.now c.loop-k.k c.loop-k-test.false) ∙ append-nil c.loop-k.names)
