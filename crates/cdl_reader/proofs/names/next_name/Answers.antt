use Rattle.cdl_cards.specs.Left.{card_left, word_of}
use Rattle.cdl_reader.proofs.NextNames.{none_there, next_is}
use Rattle.cdl_reader.proofs.names.next_name.Goals as goal

pub returns-in-None-clause-name : goal.returns-in-None-clause-name
returns-in-None-clause-name c = λ n. none_there c.args.limits.now (word_of c.args.first) n (card_left c.args.cards.now) c.in-None.ensures.word

pub returns-in-Some-clause-name : goal.returns-in-Some-clause-name
returns-in-Some-clause-name c =
    next_is c.args.limits.now (word_of c.args.first) c.check_name.result c.in-Some.word (card_left c.args.cards.now) (card_left c.next_word.new.self) c.in-Some.ensures.word c.check_name.ensures
