use Rattle.std.proofs.Common.{sym, ◌∙◌, ap, ◌++◌}
use Rattle.cdl_cards.specs.Left.{cards_left, card_left, going_left}
use Rattle.cdl_cards.proofs.cards.Cards.next_word.Goals as goal

pub returns-in-Some-clause-word : goal.returns-in-Some-clause-word
unfolding card_left
returns-in-Some-clause-word c = sym c.lines.invariant.card ∙ ap (λ ws. ws ++ going_left c.lines.self.lines) c.in-Some.ensures

pub returns-in-Some-clause-cards : goal.returns-in-Some-clause-cards
unfolding cards_left
returns-in-Some-clause-cards c = c.lines.invariant.cards

pub returns-in-None-clause-word : goal.returns-in-None-clause-word
unfolding card_left
returns-in-None-clause-word c = sym c.lines.invariant.card ∙ ap (λ ws. ws ++ going_left c.lines.self.lines) c.in_default.ensures ∙ c.in-None.ensures.more

pub returns-in-None-clause-cards : goal.returns-in-None-clause-cards
unfolding cards_left
returns-in-None-clause-cards c = c.in-None.ensures.cards ∙ c.lines.invariant.cards

pub lines-preserved : goal.lines-preserved
unfolding card_left cards_left
lines-preserved c = record {
  card = sym c.in-Some-next_more.ensures.more ∙ ap (λ ws. ws ++ going_left c.lines.self.lines) (sym c.in_default.ensures) ∙ c.lines.invariant.card;
  cards = c.in-Some-next_more.ensures.cards ∙ c.lines.invariant.cards;
}
