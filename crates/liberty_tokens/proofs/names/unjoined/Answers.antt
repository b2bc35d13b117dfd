use Rattle.std.proofs.Common.{sym, ap, ◌∙◌, ◌++◌}
use Rattle.liberty_tokens.specs.Names.{unjoined}
use Rattle.liberty_tokens.proofs.Contents.{drop_one, tail_is}
use Rattle.liberty_tokens.proofs.names.unjoined.Goals as goal

pub loop-at-preserved : goal.loop-at-preserved
loop-at-preserved c =
    let step = rw (tail_is c.args.bytes.now c.loop-at.at) at c.in_ok-joined.ensures in
    ap (λ bs. c.show_byte.new.shown.items ++ unjoined c.in_ok-joined.joined bs) (sym (drop_one c.args.bytes.now c.loop-at.at)) ∙ step ∙ c.loop-at.invariant
