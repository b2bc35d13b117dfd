use Rattle.std.proofs.Common.{sym, ◌∙◌, arith}
use Rattle.grammar.proofs.Sums.{turn_at, excess_at, early_at, digit_low}
use Rattle.grammar.proofs.example.read_sum.Goals as goal

pub overflow_sub-more : goal.overflow_sub-more
overflow_sub-more c = digit_low _ (sym c.if-not-is_digit.ensures)

pub returns-then-more-gt9 : goal.returns-then-more-gt9
returns-then-more-gt9 c =
    c.loop-at.invariant.so_far ∙ excess_at c.args.text.now c.loop-at.at c.loop-at.sum c.loop-at-test.true (sym c.if-not-is_digit.ensures) c.if-more-gt9.true

pub loop-at-preserved : goal.loop-at-preserved
loop-at-preserved c = record {
  small = c.if-more-gt9.false;
  so_far = c.loop-at.invariant.so_far ∙ turn_at c.args.text.now c.loop-at.at c.loop-at.sum c.loop-at-test.true (sym c.if-not-is_digit.ensures) c.if-more-gt9.false;
}

pub returns : goal.returns
returns c = c.loop-at.invariant.so_far ∙ early_at c.args.text.now c.loop-at.at c.loop-at.sum (omega arith)
