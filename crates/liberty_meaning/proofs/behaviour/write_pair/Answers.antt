use Rattle.std.proofs.Common.{arith}
use Rattle.liberty_meaning.proofs.Writing.{written_all}
use Rattle.liberty_meaning.proofs.behaviour.write_pair.Goals as goal

pub returns : goal.returns
returns c = written_all _ c.args.state.now c.loop-k.state c.loop-k.k c.loop-k.invariant (omega arith) (omega arith)
