use Rattle.std.proofs.Common.{◌≡◌, length}
use Rattle.correspondence.specs.Left.{lines_left, tokens_left}
use Rattle.correspondence.proofs.lines.Lines.next_line.Given as goal

abbrev pub invariant-lines : goal.invariant-lines
invariant-lines l = lines_left l.self ≡ lines_left l.fn.self

abbrev pub decreases-lines : goal.decreases-lines
decreases-lines l = length (tokens_left l.self)
