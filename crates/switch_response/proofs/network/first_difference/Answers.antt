use Rattle.std.proofs.Common.{arith}
use Rattle.switch_response.proofs.States.{same_states}
use Rattle.switch_response.proofs.network.first_difference.Goals as goal

pub returns : goal.returns
returns c = same_states _ _ c.requires (λ k lt. c.loop-node.invariant k (omega (arith, c.loop-node-test.false)))
