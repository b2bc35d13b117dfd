use Rattle.report_journal.proofs.Single.{one_list}
use Rattle.report_journal.proofs.laws.one_list_of_blocks.Goals as goal

pub returns : goal.returns
returns c = one_list
