use Rattle.std.proofs.Common.{refl, sym}
use Rattle.correspondence.proofs.Turns.{stands, word_next, word_lines, end_next, end_lines, longer, same_word}
use Rattle.correspondence.proofs.lines.Lines.next_word.Goals as goal

pub returns-then-ends_line-clause-came : goal.returns-then-ends_line-clause-came
returns-then-ends_line-clause-came c = stands c.args.self.now (sym c.if-ends_line.ensures)

pub returns-then-ends_line-2-clause-came : goal.returns-then-ends_line-2-clause-came
returns-then-ends_line-2-clause-came c =
    end_next c.args.self.now _ c.next_token-token.result
    (record { text = refl; next = c.next_token-token.ensures.next; stays = c.next_token-token.ensures.end_stays; last = refl })
    (sym c.if-ends_line.ensures) (sym c.if-ends_line-2.ensures)

pub returns-then-ends_line-2-clause-lines : goal.returns-then-ends_line-2-clause-lines
returns-then-ends_line-2-clause-lines c =
    end_lines c.args.self.now _ c.next_token-token.result
    (record { text = refl; next = c.next_token-token.ensures.next; stays = c.next_token-token.ensures.end_stays; last = refl })
    (sym c.if-ends_line.ensures) (sym c.if-ends_line-2.ensures)

pub returns-then-ends_line-2-clause-no_longer : goal.returns-then-ends_line-2-clause-no_longer
returns-then-ends_line-2-clause-no_longer c = longer c.args.self.now.text.now c.next_token-token.result _ _ c.next_token-token.ensures.next c.next_token-token.ensures.end_stays

pub returns-clause-came : goal.returns-clause-came
returns-clause-came c =
    word_next c.args.self.now _ c.next_token-token.result
    (record { text = refl; next = c.next_token-token.ensures.next; stays = c.next_token-token.ensures.end_stays; last = refl })
    (record { bytes = c.text.result; token = c.next_token-token.result }) (same_word c.args.self.now.text.now c.text.result.now c.next_token-token.result c.text.ensures)
    (sym c.if-ends_line.ensures) (sym c.if-ends_line-2.ensures)

pub returns-clause-lines : goal.returns-clause-lines
returns-clause-lines c =
    word_lines c.args.self.now _ c.next_token-token.result
    (record { text = refl; next = c.next_token-token.ensures.next; stays = c.next_token-token.ensures.end_stays; last = refl })
    (sym c.if-ends_line.ensures) (sym c.if-ends_line-2.ensures)

pub returns-clause-no_longer : goal.returns-clause-no_longer
returns-clause-no_longer c = longer c.args.self.now.text.now c.next_token-token.result _ _ c.next_token-token.ensures.next c.next_token-token.ensures.end_stays
