use Rattle.report_journal.proofs.Single.{as_many_records}
use Rattle.report_journal.proofs.laws.as_many_records_as_blocks.Goals as goal

pub returns : goal.returns
returns c = as_many_records
