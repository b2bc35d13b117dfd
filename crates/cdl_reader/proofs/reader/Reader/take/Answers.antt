use Rattle.std.proofs.Common.{◌∷◌}
use Rattle.cdl_cards.specs.Left.{card_left, word_of}
use Rattle.cdl_reader.proofs.Begins.{steps_along, stops_at, taken_in_outside, taken_in_inside, taken_in_nameless}
use Rattle.cdl_reader.proofs.reader.Reader.take.Goals as goal

pub returns-in-Outside-clause-taken : goal.returns-in-Outside-clause-taken
returns-in-Outside-clause-taken c =
    steps_along c.take_outside.result c.take_outside.new.self _ _ (taken_in_outside c.args.limits.now (word_of c.args.first ∷ card_left c.args.cards.now) c.args.self.now c.in-Outside.is) c.take_outside.ensures.taken

pub returns-in-Inside-clause-taken : goal.returns-in-Inside-clause-taken
returns-in-Inside-clause-taken c =
    steps_along c.take_inside.result c.take_inside.new.self _ _ (taken_in_inside c.args.limits.now (word_of c.args.first ∷ card_left c.args.cards.now) c.args.self.now c.in-Inside.is) c.take_inside.ensures.taken

pub returns-in-Nameless-clause-taken : goal.returns-in-Nameless-clause-taken
returns-in-Nameless-clause-taken c =
    stops_at (Unit {0}) c.at_word.result (word_of c.args.first) _ _ c.at_word.ensures (taken_in_nameless c.args.limits.now (word_of c.args.first ∷ card_left c.args.cards.now) c.args.self.now c.in-Nameless.is)
