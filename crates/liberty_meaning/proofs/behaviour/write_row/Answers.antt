use Rattle.std.proofs.Common.{◌<◌, ◌≤◌, ◌∙◌, ap, arith, length}
use Rattle.std.specs.Option.{option_copied}
use Rattle.liberty_meaning.specs.Next.{row_value}
use Rattle.liberty_meaning.proofs.Writing.{written_more, written_all}
use Rattle.liberty_meaning.proofs.behaviour.write_row.Goals as goal

pub loop-k-preserved : goal.loop-k-preserved
loop-k-preserved c =
    let within : c.loop-k.k < length c.loop-k.state = omega arith in
    let self : c.loop-k.k ≤ c.loop-k.k = omega arith in
    written_more _ c.args.state.now c.loop-k.state c.loop-k.k c.row_value.result within
    (c.row_value.ensures ∙ ap (λ x. row_value (option_copied c.args.row) c.loop-k.k x) (c.value_at.ensures ∙ c.loop-k.invariant.left c.loop-k.k self)) c.loop-k.invariant

pub returns : goal.returns
returns c = written_all _ c.args.state.now c.loop-k.state c.loop-k.k c.loop-k.invariant (omega arith) (omega arith)
