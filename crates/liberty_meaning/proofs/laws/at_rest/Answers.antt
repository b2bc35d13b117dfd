use Rattle.liberty_meaning.proofs.Resting.{rest_lasts, stateless_rests, flip_flop_rests, latch_rests, table_rests}
use Rattle.liberty_meaning.proofs.laws.at_rest.Goals as goal

pub returns-clause-lasts : goal.returns-clause-lasts
returns-clause-lasts c = rest_lasts

pub returns-clause-stateless : goal.returns-clause-stateless
returns-clause-stateless c = stateless_rests

pub returns-clause-flip_flop : goal.returns-clause-flip_flop
returns-clause-flip_flop c = flip_flop_rests

pub returns-clause-latch : goal.returns-clause-latch
returns-clause-latch c = latch_rests

pub returns-clause-table : goal.returns-clause-table
returns-clause-table c = table_rests
