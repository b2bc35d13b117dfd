use Rattle.std.proofs.Common.{◌∙◌, ap, rules}
use Rattle.liberty_meaning.specs.declared.refusal.MeaningRefusal.TheVariants as refusal
use Rattle.liberty_meaning.proofs.CellLemmas.{internal_known, internal_found, internals_known}
use Rattle.liberty_meaning.proofs.cell.check_internals.Goals as goal

pub returns-in-Some : goal.returns-in-Some
returns-in-Some c = (_, c.loop-pin.invariant ∙ internal_found c.args.nodes.now c.args.pins.now c.loop-pin.pin-index c.pin-item.result _ c.loop-pin-test.true c.pin-item.is c.in-Some.ensures, ap (λ k. refusal.UnknownName k) c.in_ok-copied.ensures)

pub loop-pin-preserved : goal.loop-pin-preserved
loop-pin-preserved c = c.loop-pin.invariant ∙ internal_known c.args.nodes.now c.args.pins.now c.loop-pin.pin-index c.pin-item.result c.loop-pin-test.true c.pin-item.is (search rules)

pub returns : goal.returns
returns c = c.loop-pin.invariant ∙ internals_known c.args.nodes.now c.args.pins.now c.loop-pin.pin-index c.loop-pin-test.false
