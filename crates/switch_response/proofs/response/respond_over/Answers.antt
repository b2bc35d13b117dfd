use Rattle.std.proofs.Common.{true, subst, arith}
use Rattle.switch_response.specs.Walks.{Net, net}
use Rattle.switch_response.specs.Spread.{IsSpread, ground}
use Rattle.switch_response.proofs.Exact.{becomes_value, has_arrival}
use Rattle.switch_response.proofs.response.respond_over.Goals as goal
use Rattle.switch_response.proofs.response.respond_over.Goals.{After-settle}

definite : (c : After-settle) → IsSpread (ground c.args.wiring.now.transistors c.args.wiring.now.storage c.args.values.now true c.args.strengths.now) c.args.strengths.now c.spread.new.best
definite c = subst (λ seeds. IsSpread (ground c.args.wiring.now.transistors c.args.wiring.now.storage c.args.values.now true c.args.strengths.now) seeds c.spread.new.best) c.copy_from_slice.ensures.after c.spread.ensures.spread

pub returns-clause-response : goal.returns-clause-response
returns-clause-response c =
    let best = definite (goal.at.returns-clause-response c).After-settle in
    let n : Net = net c.args.wiring.now.storage c.args.strengths.now c.args.wiring.now.transistors in
    record {
      count = omega (arith, c.requires.next);
      each = λ node lt.
          let is = c.settle.ensures node (omega (arith, c.requires.next)) in
          becomes_value n c.requires.network c.args.values.now c.spread.new.best best c.sow.new.seeds c.sow-2.new.seeds c.spread-2.new.best c.spread-3.new.best
          (omega (arith, c.requires.ones, c.requires.strengths)) (omega (arith, c.requires.zeros, c.requires.strengths)) c.sow.ensures.seeds c.sow-2.ensures.seeds c.spread-2.ensures.spread c.spread-3.ensures.spread
          node lt _ is.one is.zero is.unknown;
    }

pub returns-clause-walks : goal.returns-clause-walks
returns-clause-walks c node lt =
    let n : Net = net c.args.wiring.now.storage c.args.strengths.now c.args.wiring.now.transistors in
    has_arrival n c.requires.network c.args.values.now c.spread.new.best (definite (goal.at.returns-clause-walks c).After-settle) 8 c.requires.network.strongest node lt
