use Rattle.liberty_meaning.proofs.Keeping.{output_keeps, stateless_keeps, latch_keeps, flip_flop_keeps, table_keeps}
use Rattle.liberty_meaning.proofs.laws.monotone.Goals as goal

pub returns-clause-outputs : goal.returns-clause-outputs
returns-clause-outputs c = output_keeps

pub returns-clause-stateless : goal.returns-clause-stateless
returns-clause-stateless c = stateless_keeps

pub returns-clause-latch : goal.returns-clause-latch
returns-clause-latch c = latch_keeps

pub returns-clause-flip_flop : goal.returns-clause-flip_flop
returns-clause-flip_flop c = flip_flop_keeps

pub returns-clause-table : goal.returns-clause-table
returns-clause-table c = table_keeps
