use Rattle.std.proofs.Common.{◌<◌, length, ◌∙◌, arith, length-take}
use Rattle.std.proofs.lemmas.List.{get_or-take, get_or_default}
use Rattle.switch_response.proofs.stack.Stack.fill.Goals as goal

pub returns-clause-each : goal.returns-clause-each
returns-clause-each c k lt =
    let xs = c.loop-node.self-inside.nodes.items in
    let inside : k < length xs = omega (arith, c.loop-node.invariant.length, c.requires) in (
      k,
      simp length-take (omega (arith, c.loop-node.invariant.length, c.requires)),
      get_or-take c.args.count xs k k lt ∙ get_or_default xs k k 0 inside ∙ c.loop-node.invariant.filled k (omega (arith, c.loop-node-test.false)),
    )
