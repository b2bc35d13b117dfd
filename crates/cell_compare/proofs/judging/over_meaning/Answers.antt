use Rattle.std.proofs.lemmas.Result.{IfOk-weaker}
use Rattle.cell_compare.specs.Compare as spec
use Rattle.cell_compare.proofs.Stepping.{meaning_refused}
use Rattle.cell_compare.proofs.judging.over_meaning.Goals as goal

pub returns-in-Ok : goal.returns-in-Ok
returns-in-Ok c =
    IfOk-weaker c.over_gates.result _ (spec.IsOverMeaning c.args.cell.now c.args.module.now c.args.models.now.primitives)
    (λ k h. spec.meaning c.in-Ok.behaviour c.in-Ok.ensures h) c.over_gates.ensures

pub returns-in_ok-meaning_reason-in-Err : goal.returns-in_ok-meaning_reason-in-Err
returns-in_ok-meaning_reason-in-Err c =
    meaning_refused c.args.cell.now c.args.module.now c.args.models.now.primitives c.in-Err.refusal c.in_ok-meaning_reason-in-Err.field-0 c.in-Err.ensures c.in_ok-meaning_reason-in-Err.ensures
