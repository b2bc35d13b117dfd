use Rattle.report_journal.proofs.Single.{one_refusal, none_refused}
use Rattle.report_journal.proofs.laws.one_refusal_or_none.Goals as goal

pub returns-clause-one : goal.returns-clause-one
returns-clause-one c = one_refusal

pub returns-clause-none : goal.returns-clause-none
returns-clause-none c = none_refused
