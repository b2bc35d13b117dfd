use Rattle.std.proofs.Common.{arith}
use Rattle.grammar.proofs.Sums.{other_at, more_at, last_at}
use Rattle.grammar.proofs.example.ending.Goals as goal

pub returns-then-text-at-ne46 : goal.returns-then-text-at-ne46
returns-then-text-at-ne46 c = other_at c.args.text.now c.args.at c.args.sum c.requires.within c.requires.no_digit c.if-text-at-ne46.true

pub returns-then-at-text : goal.returns-then-at-text
returns-then-at-text c = more_at c.args.text.now c.args.at c.args.sum c.requires.within c.if-text-at-ne46.false (omega arith)

pub returns : goal.returns
returns c = last_at c.args.text.now c.args.at c.args.sum c.requires.within c.if-text-at-ne46.false (omega arith)
