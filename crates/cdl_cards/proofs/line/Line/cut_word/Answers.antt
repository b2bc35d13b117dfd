use Rattle.cdl_cards.proofs.LineWords.{word_here, no_word}
use Rattle.cdl_cards.proofs.line.Line.cut_word.Goals as goal

pub returns-in-empty : goal.returns-in-empty
returns-in-empty c = no_word c.args.self.now.number c.args.self.now.size c.args.self.now.rest.now c.from_word-text.result.now c.from_word-text.ensures c.in-empty.len_below

pub returns-in-len1-up : goal.returns-in-len1-up
returns-in-len1-up c =
    word_here c.args.self.now.number c.args.self.now.size c.args.self.now.rest.now c.from_word-text.result.now c.until_space-n.result c.column_of.result c.from_word-text.ensures c.in-len1-up.len_at_least
    c.until_space-n.ensures.value c.column_of.ensures
