use Rattle.std.proofs.Common.{◌∙◌, ap}
use Rattle.std.proofs.lemmas.Result.{IfOk-weaker}
use Rattle.cell_compare.specs.Parts.{first_reason}
use Rattle.cell_compare.specs.Pins.{names_of_inputs, own_supplies}
use Rattle.cell_compare.specs.Compare as spec
use Rattle.cell_compare.proofs.Pinning.{supplies_own}
use Rattle.cell_compare.proofs.Stepping.{over_made, over_refused}
use Rattle.cell_compare.proofs.judging.over_tables.Goals as goal

pub returns-in-Ok : goal.returns-in-Ok
returns-in-Ok c =
    let p = c.primitives-primitives.result.now in
    let reason = c.in_ok-reason.ensures ∙ ap (first_reason p.names p.flaws) c.as_slice.ensures in
    let inputs = c.as_slice-4.ensures ∙ c.in_ok-inputs.ensures ∙ ap names_of_inputs c.as_slice-2.ensures in
    let supplies = c.as_slice-5.ensures ∙ c.in_ok-supplies.ensures ∙ ap own_supplies c.as_slice-3.ensures ∙ supplies_own c.args.cell.now.pins in
    IfOk-weaker c.over_network.result _ (spec.IsOverPrimitives c.args.behaviour c.args.cell.now c.args.module.now c.args.models.now.primitives)
    (λ k h. over_made c.args.behaviour c.args.cell.now c.args.module.now c.args.models.now.primitives p c.in_ok-reason.field-0 _ _ c.in-Ok.net k
    c.primitives-primitives.ensures reason c.in_default.is inputs supplies c.in-Ok.ensures.built h)
    c.over_network.ensures

pub returns-in_ok-gate_reason-in-Err : goal.returns-in_ok-gate_reason-in-Err
returns-in_ok-gate_reason-in-Err c =
    let p = c.primitives-primitives.result.now in
    let reason = c.in_ok-reason.ensures ∙ ap (first_reason p.names p.flaws) c.as_slice.ensures in
    let inputs = c.as_slice-4.ensures ∙ c.in_ok-inputs.ensures ∙ ap names_of_inputs c.as_slice-2.ensures in
    let supplies = c.as_slice-5.ensures ∙ c.in_ok-supplies.ensures ∙ ap own_supplies c.as_slice-3.ensures ∙ supplies_own c.args.cell.now.pins in
    over_refused c.args.behaviour c.args.cell.now c.args.module.now c.args.models.now.primitives p c.in_ok-reason.field-0 _ _ c.in-Err.refusal c.in_ok-gate_reason-in-Err.field-0
    c.primitives-primitives.ensures reason c.in_default.is inputs supplies c.in-Err.ensures.refused c.in_ok-gate_reason-in-Err.ensures
