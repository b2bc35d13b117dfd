use Rattle.std.specs.Option.{option_copied}
use Rattle.liberty_meaning.specs.Next.{row_value}
use Rattle.liberty_function.specs.Sources.{value_at}
use Rattle.liberty_meaning.proofs.Writing.{IsWritten}
use Rattle.liberty_meaning.proofs.behaviour.write_row.Given as goal

abbrev pub invariant-loop-k : goal.invariant-loop-k
invariant-loop-k l = IsWritten (λ j. row_value (option_copied l.row) j (value_at l.fn.state j)) l.fn.state l.state l.k
