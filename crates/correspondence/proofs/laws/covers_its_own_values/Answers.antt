use Rattle.correspondence.proofs.First.{own, at_or_before}
use Rattle.correspondence.proofs.laws.covers_its_own_values.Goals as goal

pub returns-clause-row : goal.returns-clause-row
returns-clause-row c = own

pub returns-clause-first : goal.returns-clause-first
returns-clause-first c = λ rows place row o at first. at_or_before rows row.pins row.liberty row.udps row.nodes place row o at (own row) first
