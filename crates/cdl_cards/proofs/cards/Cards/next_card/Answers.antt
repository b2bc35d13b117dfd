use Rattle.cdl_cards.specs.Left.{cards_left, card_left}
use Rattle.cdl_cards.proofs.Turns.{first_word}
use Rattle.cdl_cards.proofs.cards.Cards.next_card.Goals as goal

pub returns-in-None : goal.returns-in-None
unfolding cards_left
returns-in-None c = c.in-None.ensures.card

pub returns-in-Some : goal.returns-in-Some
unfolding cards_left card_left
returns-in-Some c = first_word c.next_word.result c.in-Some.line c.next_word.new.self c.args.self.now.lines c.next_begun.new.self c.in-Some.ensures.kind c.in-Some.ensures.card c.next_word.ensures
