use Rattle.std.proofs.Common.{sym, ap, ◌∙◌, ◌++◌}
use Rattle.liberty_tokens.specs.Names.{columns_from}
use Rattle.liberty_tokens.proofs.Contents.{drop_one, tail_is}
use Rattle.liberty_tokens.proofs.names.columns.Goals as goal

pub loop-at-preserved : goal.loop-at-preserved
loop-at-preserved c =
    let step = rw (tail_is c.args.bytes.now c.loop-at.at) at c.in_ok-column.ensures in
    ap (λ bs. c.add_byte.new.columns ++ columns_from c.in_ok-column.column.items bs) (sym (drop_one c.args.bytes.now c.loop-at.at)) ∙ step ∙ c.loop-at.invariant
