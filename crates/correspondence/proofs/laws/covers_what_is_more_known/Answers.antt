use Rattle.correspondence.proofs.First.{more_known, at_or_before}
use Rattle.correspondence.proofs.laws.covers_what_is_more_known.Goals as goal

pub returns-clause-row : goal.returns-clause-row
returns-clause-row c = more_known

pub returns-clause-first : goal.returns-clause-first
returns-clause-first c = λ rows pins liberty udps nodes more place o up before after.
    at_or_before rows pins liberty udps more place before.row o before.at_place (more_known before.row pins liberty udps nodes more up before.covers) after
