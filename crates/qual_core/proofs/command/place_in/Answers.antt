use Rattle.std.proofs.Common.{length}
use Rattle.qual_core.proofs.Words.{place-next}
use Rattle.qual_core.proofs.command.place_in.Goals as goal

pub loop-left-preserved : goal.loop-left-preserved
loop-left-preserved c =
    place-next _ (length c.args.pairs.now) c.loop-left.left.now c.args.wanted.now c.option-item.result
    c.in-len2-up.len_at_least c.loop-left.invariant.0 (cc) c.loop-left.invariant.1
