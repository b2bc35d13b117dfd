use Rattle.std.proofs.Common.{◌≡◌, ◌≤◌, length}
use Rattle.correspondence.specs.Left.{lines_left, tokens_left, words_left}
use Rattle.correspondence.proofs.lines.Lines.skip_words.Given as goal

abbrev pub invariant-words : goal.invariant-words
invariant-words l = (lines_left l.self ≡ lines_left l.fn.self) × (length (tokens_left l.self) ≤ length (tokens_left l.fn.self))

abbrev pub decreases-words : goal.decreases-words
decreases-words l = length (words_left l.self)
