use Rattle.std.proofs.Common.{sym, ◌∙◌}
use Rattle.cdl_cards.proofs.Turns.{begun_here, begun_none, begun_same}
use Rattle.cdl_cards.proofs.line.Lines.next_begun.Goals as goal

pub returns-in-Card-clause-card : goal.returns-in-Card-clause-card
returns-in-Card-clause-card c = sym c.lines.invariant ∙ begun_here c.lines.self c.next_line.new.self c.in-Some.line c.in-Some.ensures c.in-Card.ensures

pub lines-preserved : goal.lines-preserved
lines-preserved c = sym (begun_same c.lines.self c.next_line.new.self c.in-Some.line c.in-Some.ensures c.kind.result c.kind.ensures c.in_default-kind.not-Card) ∙ c.lines.invariant

pub returns-clause-card : goal.returns-clause-card
returns-clause-card c = sym c.lines.invariant ∙ begun_none c.lines.self c.in_default.ensures
