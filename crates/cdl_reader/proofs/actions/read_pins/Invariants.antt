use Rattle.std.proofs.Common.{◌≡◌, ◌++◌, length, map}
use Rattle.cdl_cards.specs.Left.{card_left, cards_left}
use Rattle.cdl_reader.specs.Actions.{word_bytes}
use Rattle.cdl_reader.specs.Words.{first_fault, operands}
use Rattle.cdl_reader.proofs.actions.read_pins.Given as goal

abbrev pub invariant-pins : goal.invariant-pins
invariant-pins l = record {
  faults : first_fault l.limits (operands (card_left l.cards)) ≡ first_fault l.limits (operands (card_left l.fn.cards));
  pins : l.pins ++ map word_bytes (operands (card_left l.cards)) ≡ map word_bytes (operands (card_left l.fn.cards));
  cards : cards_left l.cards ≡ cards_left l.fn.cards;
}

abbrev pub decreases-pins : goal.decreases-pins
decreases-pins l = length (operands (card_left l.cards))
