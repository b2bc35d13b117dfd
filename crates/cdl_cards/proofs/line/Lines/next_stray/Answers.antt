use Rattle.std.proofs.Common.{sym, ◌∙◌}
use Rattle.cdl_cards.proofs.Turns.{stray_here, stray_later, stray_ends, stray_none}
use Rattle.cdl_cards.proofs.line.Lines.next_stray.Goals as goal

pub lines-preserved : goal.lines-preserved
lines-preserved c = sym (stray_later c.lines.self c.next_line.new.self c.in-Some.line c.in-Some.ensures c.in-Passed.ensures) ∙ c.lines.invariant

pub returns-in-More-clause-stray : goal.returns-in-More-clause-stray
returns-in-More-clause-stray c = sym c.lines.invariant ∙ stray_here c.lines.self c.next_line.new.self c.in-Some.line c.in-Some.ensures c.in-More.ensures

pub returns-in-Card-clause-stray : goal.returns-in-Card-clause-stray
returns-in-Card-clause-stray c = sym c.lines.invariant ∙ stray_ends c.lines.self c.next_line.new.self c.in-Some.line c.in-Some.ensures c.in-Card.ensures

pub returns-clause-stray : goal.returns-clause-stray
returns-clause-stray c = sym c.lines.invariant ∙ stray_none c.lines.self c.in_default.ensures
