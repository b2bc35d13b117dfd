use Rattle.std.proofs.Common.{◌∙◌, sym}
use Rattle.qual_core.proofs.Words.{bad-pair, good-pair}
use Rattle.qual_core.proofs.command.are_options_of.Goals as goal

pub returns-then-not-is_option_of : goal.returns-then-not-is_option_of
returns-then-not-is_option_of c =
    sym (c.loop-left.invariant
    ∙ bad-pair c.args.name c.loop-left.left.now c.deref.result.now c.deref-in-len2-up.result.now c.option-item.result c.value-item.result
    c.in-len2-up.len_at_least (cc) (cc) (cc))

pub loop-left-preserved : goal.loop-left-preserved
loop-left-preserved c =
    c.loop-left.invariant
    ∙ good-pair c.args.name c.loop-left.left.now c.deref.result.now c.deref-in-len2-up.result.now c.option-item.result c.value-item.result
    c.in-len2-up.len_at_least (cc) (cc) (cc)
