use Rattle.std.proofs.Common.{◌∙◌, rules}
use Rattle.liberty_function.proofs.TextLemmas.{known_here, found_here, known_end}
use Rattle.liberty_function.proofs.texts.first_unknown.Goals as goal

pub returns-in-Some : goal.returns-in-Some
returns-in-Some c = c.loop-placed.invariant ∙ found_here c.args.scope.now c.args.words.now c.loop-placed.placed-index c.placed-item.result _ c.loop-placed-test.true c.placed-item.is c.in-Some.ensures

pub loop-placed-preserved : goal.loop-placed-preserved
loop-placed-preserved c = c.loop-placed.invariant ∙ known_here c.args.scope.now c.args.words.now c.loop-placed.placed-index c.placed-item.result c.loop-placed-test.true c.placed-item.is (search rules)

pub returns : goal.returns
returns c = c.loop-placed.invariant ∙ known_end c.args.scope.now c.args.words.now c.loop-placed.placed-index c.loop-placed-test.false
