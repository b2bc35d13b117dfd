use Rattle.std.proofs.Common.{sym, ◌∙◌, ap, ◌∷◌, Err}
use Rattle.cdl_cards.specs.Cards.{cards, cards_of, stray}
use Rattle.cdl_cards.specs.Lines.{lines}
use Rattle.cdl_cards.specs.Left.{card_left, cards_left, word_of}
use Rattle.cdl_reader.proofs.Follows.{agrees_so, goes_on, stops_so, stray_stops}
use Rattle.cdl_reader.proofs.public_call.read_cards.Goals as goal

pub returns-in-Some : goal.returns-in-Some
unfolding cards_of
returns-in-Some c =
    agrees_so (Err c.at_word.result) _
    (ap Err c.at_word.ensures ∙ sym (stray_stops c.args.text.now c.args.limits.now c.in-Some.word (stray 1 (lines c.args.text.now)) (cards 1 (lines c.args.text.now)) c.in-Some.ensures))

pub returns-in-Err : goal.returns-in-Err
returns-in-Err c =
    stops_so c.args.limits.now c.args.text.now c.in-Err.refusal c.cards.reader c.take.new.self (word_of c.in-Some-next_card.first ∷ card_left c.next_card.new.self) (cards_left c.cards.cards) (cards_left c.next_card.new.self) _
    c.in-Some-next_card.ensures c.in-Err.ensures.taken c.cards.invariant

pub cards-preserved : goal.cards-preserved
cards-preserved c =
    goes_on c.args.limits.now c.args.text.now c.cards.reader c.take.new.self (word_of c.in-Some-next_card.first ∷ card_left c.next_card.new.self) (cards_left c.cards.cards) (cards_left c.next_card.new.self) (cards_left c.take.new.cards)
    c.in-Some-next_card.ensures c.in_default-take.ensures.cards c.in_default-take.ensures.taken
    ∙ c.cards.invariant
