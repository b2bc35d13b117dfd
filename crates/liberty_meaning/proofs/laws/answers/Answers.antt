use Rattle.liberty_meaning.proofs.Meanings.{output_answers, stateless_answers, flip_flop_answers, latch_answers, table_answers}
use Rattle.liberty_meaning.proofs.laws.answers.Goals as goal

pub returns-clause-output : goal.returns-clause-output
returns-clause-output c = output_answers

pub returns-clause-stateless : goal.returns-clause-stateless
returns-clause-stateless c = stateless_answers

pub returns-clause-flip_flop : goal.returns-clause-flip_flop
returns-clause-flip_flop c = flip_flop_answers

pub returns-clause-latch : goal.returns-clause-latch
returns-clause-latch c = latch_answers

pub returns-clause-table : goal.returns-clause-table
returns-clause-table c = table_answers
