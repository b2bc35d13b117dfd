use Rattle.std.proofs.Common.{◌≡◌, length}
use Rattle.cdl_cards.specs.Left.{card_left, cards_left}
use Rattle.cdl_reader.specs.Words.{operands}
use Rattle.cdl_reader.proofs.names.next_operand.Given as goal

abbrev pub invariant-words : goal.invariant-words
invariant-words l = record {
  operand : operands (card_left l.cards) ≡ operands (card_left l.fn.cards);
  cards : cards_left l.cards ≡ cards_left l.fn.cards;
}

abbrev pub decreases-words : goal.decreases-words
decreases-words l = length (card_left l.cards)
