use Rattle.liberty_meaning.proofs.Losing.{loses_at_rise, loses_at_known}
use Rattle.liberty_meaning.proofs.laws.not_monotone.Goals as goal

pub returns-clause-flip_flop : goal.returns-clause-flip_flop
returns-clause-flip_flop c = loses_at_rise

pub returns-clause-table : goal.returns-clause-table
returns-clause-table c = loses_at_known
