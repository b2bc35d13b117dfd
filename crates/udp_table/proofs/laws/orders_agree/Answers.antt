use Rattle.udp_table.proofs.Commons.{same_ends, different_ends}
use Rattle.udp_table.proofs.laws.orders_agree.Goals as goal

pub returns-clause-same : goal.returns-clause-same
returns-clause-same c = same_ends

pub returns-clause-different : goal.returns-clause-different
returns-clause-different c = different_ends
