use Rattle.liberty_meaning.specs.Next.{pair_value}
use Rattle.liberty_function.specs.Sources.{value_at}
use Rattle.liberty_meaning.proofs.Writing.{IsWritten}
use Rattle.liberty_meaning.proofs.behaviour.write_pair.Given as goal

abbrev pub invariant-loop-k : goal.invariant-loop-k
invariant-loop-k l = IsWritten (λ j. pair_value l.pair j (value_at l.fn.state j)) l.fn.state l.state l.k
