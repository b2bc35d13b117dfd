use Rattle.std.proofs.Common.{ap, arith, length}
use Rattle.liberty_function.proofs.Cutting.{begin_cut, whole_cut}
use Rattle.liberty_function.proofs.words.words_of_text.Goals as goal

pub loop-i-init : goal.loop-i-init
loop-i-init c = record { words = rw (c.new.ensures, c.new-2.ensures.items) (begin_cut c.args.text.now); short = omega (arith, ap length c.new-2.ensures.items) }

pub returns : goal.returns
returns c = whole_cut c.args.text.now c.loop-i.i _ _ _ (omega arith) (omega arith) c.loop-i.invariant.words c.in_ok-close.ensures.0
