use Rattle.std.proofs.Common.{sym, ◌∙◌, refl, ap, subst, arith, ◌≡◌}
use Rattle.cdl_cards.specs.Left.{Took, lines_left}
use Rattle.cdl_cards.specs.declared.kinds.LineKind.TheVariants as kinds
use Rattle.cdl_cards.specs.declared.line.Lines.{Lines}
use Rattle.cdl_cards.specs.declared.line.Line.{Line}
use Rattle.cdl_cards.proofs.Turns.{begun_same, going_here, going_later, going_ends, going_none}
use Rattle.cdl_cards.proofs.line.Lines.next_more.Goals as goal

took : (a b n : Lines) (line : Line) → a ≡ b → Took a n line → Took b n line
took a b n line e t = subst (λ z. Took z n line) e t

pub lines-preserved : goal.lines-preserved
lines-preserved c =
    let t = took _ c.lines.self c.next_line.new.self c.in-Some.line c.lines.invariant.same c.in-Some.ensures in
    let less = t.shorter in
    record {
      same = refl;
      cards = sym (begun_same _ _ _ t c.kind.result c.kind.ensures (λ k. let no : kinds.Passed ≡ kinds.Card = sym c.in-Passed.is ∙ k in cc no)) ∙ c.lines.invariant.cards;
      going = sym (going_later _ _ _ t c.in-Passed.ensures) ∙ c.lines.invariant.going;
      shorter = omega arith;
    }

pub returns-in-More-clause-cards : goal.returns-in-More-clause-cards
returns-in-More-clause-cards c =
    let t = took _ c.lines.self c.next_line.new.self c.in-Some.line c.lines.invariant.same c.in-Some.ensures in
    sym (begun_same _ _ _ t c.kind.result c.kind.ensures (λ k. let no : kinds.More ≡ kinds.Card = sym c.in-More.is ∙ k in cc no)) ∙ c.lines.invariant.cards

pub returns-in-More-clause-more : goal.returns-in-More-clause-more
returns-in-More-clause-more c =
    let t = took _ c.lines.self c.next_line.new.self c.in-Some.line c.lines.invariant.same c.in-Some.ensures in
    sym c.lines.invariant.going ∙ going_here _ _ _ t _ c.in-More.ensures c.after_first.ensures

pub returns-in-Card-clause-more : goal.returns-in-Card-clause-more
returns-in-Card-clause-more c =
    let t = took _ c.lines.self c.next_line.new.self c.in-Some.line c.lines.invariant.same c.in-Some.ensures in
    sym c.lines.invariant.going ∙ going_ends _ _ _ t c.in-Card.ensures

pub returns-clause-more : goal.returns-clause-more
returns-clause-more c = sym c.lines.invariant.going ∙ going_none c.lines.self (ap lines_left (sym c.lines.invariant.same) ∙ c.in_default.ensures)
