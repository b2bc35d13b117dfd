use Rattle.std.proofs.Common.{◌∙◌, ap, subst}
use Rattle.std.proofs.lemmas.Result.{IfOk-weaker}
use Rattle.gate_settle.specs.Network.{HasOneSettled}
use Rattle.cell_compare.specs.Rows.{outputs_of}
use Rattle.cell_compare.specs.Compare as spec
use Rattle.cell_compare.proofs.Comparing.{vectors_compared}
use Rattle.cell_compare.proofs.judging.over_vectors.Goals as goal

pub returns : goal.returns
returns c =
    let one = subst HasOneSettled c.network.ensures c.one_settled.ensures in
    let outputs = c.in_ok-outputs.ensures ∙ ap (outputs_of c.args.net.names) c.as_slice.ensures in
    let inputs = c.inputs-inputs.ensures ∙ c.requires.means.inputs in
    IfOk-weaker c.counted.result _ (spec.AreCompared c.args.behaviour c.args.cell.now c.args.net)
    (λ k e. vectors_compared c.args.behaviour c.args.cell.now c.args.net c.in_ok-outputs.outputs c.inputs-inputs.result c.in_ok-tally.tally k one outputs inputs c.in_ok-tally.ensures
    (e ∙ ap (λ os. spec.counted os c.in_ok-tally.tally) c.as_slice-2.ensures))
    c.counted.ensures
