use Rattle.std.proofs.Common.{sym, ◌∙◌}
use Rattle.cdl_cards.specs.Left.{card_left, word_of}
use Rattle.cdl_reader.proofs.NextNames.{operand_here, operand_passed, operands_none}
use Rattle.cdl_reader.proofs.names.next_operand.Goals as goal

pub returns-then-not-has_equals-clause-operand : goal.returns-then-not-has_equals-clause-operand
returns-then-not-has_equals-clause-operand c =
    sym c.words.invariant.operand ∙ operand_here (card_left c.words.cards) (card_left c.next_word.new.self) (word_of c.in-Some.word) c.in-Some.ensures.word (sym c.if-not-has_equals.ensures)

pub words-preserved : goal.words-preserved
words-preserved c = record {
  operand = operand_passed (card_left c.words.cards) (card_left c.next_word.new.self) (word_of c.in-Some.word) c.in-Some.ensures.word (sym c.if-not-has_equals.ensures) ∙ c.words.invariant.operand;
  cards = c.in-Some.ensures.cards ∙ c.words.invariant.cards;
}

pub returns-clause-operand : goal.returns-clause-operand
returns-clause-operand c = sym c.words.invariant.operand ∙ operands_none (card_left c.words.cards) c.in_default.ensures.word
