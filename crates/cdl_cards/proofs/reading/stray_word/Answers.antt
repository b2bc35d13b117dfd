use Rattle.std.proofs.Common.{sym, ◌∙◌, ap}
use Rattle.cdl_cards.specs.Cards.{stray}
use Rattle.cdl_cards.specs.Left.{lines_left}
use Rattle.cdl_cards.proofs.Turns.{stray_first}
use Rattle.cdl_cards.proofs.reading.stray_word.Goals as goal

pub returns-in-Some : goal.returns-in-Some
returns-in-Some c =
    stray_first c.next_word.result c.in-Some.line c.next_word.new.self _ c.in-Some.ensures.kind
    (ap (stray 1) (sym c.of.ensures.0) ∙ ap (λ n. stray n (lines_left c.of.result)) (sym c.of.ensures.1) ∙ c.in-Some.ensures.stray) c.next_word.ensures
