use Rattle.pin_tables.proofs.OneList.{one_list}
use Rattle.pin_tables.proofs.laws.findings_are_one.Goals as goal

pub returns : goal.returns
returns c = one_list c.args.views.now
