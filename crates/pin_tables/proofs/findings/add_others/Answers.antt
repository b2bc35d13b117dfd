use Rattle.std.specs.BTreeMap.{keys}
use Rattle.pin_tables.proofs.Lists.{sorted_names}
use Rattle.pin_tables.proofs.findings.add_others.Goals as goal

pub returns-clause-sorted : goal.returns-clause-sorted
returns-clause-sorted c = sorted_names (keys c.args.others.now.roles) c.keys-name-items.ensures.ordered
