use Rattle.std.proofs.Common.{◌≡◌, ◌++◌, map, length}
use Rattle.correspondence.specs.Left.{lines_left, words_left}
use Rattle.correspondence.specs.Words.{bytes_of, names_refusal}
use Rattle.correspondence.proofs.names.read_names.Given as goal

abbrev pub invariant-words : goal.invariant-words
invariant-words l = record {
  told : names_refusal l.limits (words_left l.fn.lines) ≡ names_refusal l.limits (words_left l.lines);
  made : map bytes_of (words_left l.fn.lines) ≡ l.names ++ map bytes_of (words_left l.lines);
  behind : lines_left l.lines ≡ lines_left l.fn.lines;
}

abbrev pub decreases-words : goal.decreases-words
decreases-words l = length (words_left l.lines)
