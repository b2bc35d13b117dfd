use Rattle.std.proofs.Common.{◌≡◌, length}
use Rattle.cdl_cards.specs.Left.{card_left, cards_left}
use Rattle.cdl_cards.proofs.cards.Cards.next_word.Given as goal

abbrev pub invariant-lines : goal.invariant-lines
invariant-lines l = record {
  card : card_left l.self ≡ card_left l.fn.self;
  cards : cards_left l.self ≡ cards_left l.fn.self;
}

abbrev pub decreases-lines : goal.decreases-lines
decreases-lines l = length l.self.lines.text.now
