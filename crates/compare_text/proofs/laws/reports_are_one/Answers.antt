use Rattle.compare_text.proofs.OneReport.{one_report}
use Rattle.compare_text.proofs.laws.reports_are_one.Goals as goal

pub returns : goal.returns
returns c = one_report
