use Rattle.std.proofs.Common.{sym, subst, ◌∙◌}
use Rattle.grammar.specs.Answers.{IsAnswer}
use Rattle.grammar.specs.Example.{sums}
use Rattle.grammar.proofs.Answer.{answers}
use Rattle.grammar.proofs.Unique.{answer_is_read}
use Rattle.grammar.proofs.Sums.{sums_simple}
use Rattle.grammar.proofs.example.sum_of.Goals as goal

pub returns-clause-answer : goal.returns-clause-answer
returns-clause-answer c = subst (IsAnswer sums 0 c.args.text.now) c.read_sum.ensures (answers sums sums_simple 0 c.args.text.now)

pub returns-clause-only_answer : goal.returns-clause-only_answer
returns-clause-only_answer c = λ o is. sym c.read_sum.ensures ∙ answer_is_read sums sums_simple 0 c.args.text.now o is
