use Rattle.std.proofs.Common.{◌≡◌, ◌≤◌, drop}
use Rattle.grammar.specs.Answers.{read_all}
use Rattle.grammar.specs.Example.{sums}
use Rattle.grammar.proofs.example.read_sum.Given as goal

abbrev pub invariant-loop-at : goal.invariant-loop-at
invariant-loop-at l = record {
  small : l.sum ≤ 9;
  so_far : read_all sums 0 l.text ≡ read_all sums l.sum (drop l.at l.text);
}
