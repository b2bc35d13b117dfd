use Rattle.std.proofs.Common.{◌≡◌, ◌++◌, ◌≤◌, length, drop}
use Rattle.liberty_function.specs.Words as spec
use Rattle.liberty_function.proofs.words.words_of_text.Given as goal

abbrev pub invariant-loop-i : goal.invariant-loop-i
invariant-loop-i l = record {
  words : spec.words_of l.text ≡ l.cutting.words ++ spec.words_from l.i l.cutting.name.items (drop l.i l.text);
  short : length l.cutting.name.items ≤ l.i;
}
