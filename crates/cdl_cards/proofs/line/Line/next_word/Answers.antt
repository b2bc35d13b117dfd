use Rattle.std.proofs.Common.{sym}
use Rattle.cdl_cards.specs.Left.{word_of, words_left}
use Rattle.cdl_cards.proofs.Turns.{shown_none, shown_ends, shown_more}
use Rattle.cdl_cards.proofs.line.Line.next_word.Goals as goal

pub returns-in-None : goal.returns-in-None
returns-in-None c = shown_none _ c.in-None.ensures

pub returns-then-begins_with : goal.returns-then-begins_with
returns-then-begins_with c = shown_ends (words_left c.args.self.now) (words_left c.cut_word.new.self) (word_of c.in-Some.word) c.in-Some.ensures (sym c.if-begins_with.ensures)

pub returns-else-begins_with : goal.returns-else-begins_with
returns-else-begins_with c = shown_more (words_left c.args.self.now) (words_left c.cut_word.new.self) (word_of c.in-Some.word) c.in-Some.ensures (sym c.if-begins_with.ensures)
