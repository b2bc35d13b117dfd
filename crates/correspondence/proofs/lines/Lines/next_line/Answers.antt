use Rattle.std.proofs.Common.{refl, sym, ap, ◌∙◌, arith}
use Rattle.text_scan.specs.Left.{is_end}
use Rattle.correspondence.specs.Lines.{ends_line, is_comment}
use Rattle.correspondence.proofs.Turns.{begun_line, comment_line, empty_line, is_word, no_end, no_line, same_word, shorter}
use Rattle.correspondence.proofs.lines.Lines.next_line.Goals as goal

pub returns-in-End : goal.returns-in-End
returns-in-End c =
    sym c.lines.invariant ∙ sym c.skip_words.ensures.lines
    ∙ no_line c.skip_words.new.self c.next_token-token.result _ c.next_token-token.ensures.next c.skip_words.ensures.between c.in-End.is

pub lines-smaller-in-LineEnd : goal.lines-smaller-in-LineEnd
lines-smaller-in-LineEnd c =
    let less = shorter c.skip_words.new.self.text.now c.next_token-token.result _ _ c.next_token-token.ensures.next (ap is_end c.in-LineEnd.is) in
    omega (arith, less, c.skip_words.ensures.no_longer)

pub lines-preserved-in-LineEnd : goal.lines-preserved-in-LineEnd
lines-preserved-in-LineEnd c =
    empty_line c.skip_words.new.self _ c.next_token-token.result
    (record { text = refl; next = c.next_token-token.ensures.next; stays = c.next_token-token.ensures.end_stays; last = refl })
    c.skip_words.ensures.between (ap ends_line c.in-LineEnd.is) (ap is_end c.in-LineEnd.is)
    ∙ c.skip_words.ensures.lines ∙ c.lines.invariant

pub returns-then-not-is_comment : goal.returns-then-not-is_comment
returns-then-not-is_comment c =
    sym c.lines.invariant ∙ sym c.skip_words.ensures.lines
    ∙ begun_line c.skip_words.new.self _ c.next_token-token.result
    (record { text = refl; next = c.next_token-token.ensures.next; stays = c.next_token-token.ensures.end_stays; last = refl })
    (record { bytes = c.text-bytes.result; token = c.next_token-token.result })
    (same_word c.skip_words.new.self.text.now c.text-bytes.result.now c.next_token-token.result c.text-bytes.ensures)
    c.skip_words.ensures.between (is_word _ c.in_default.not-LineEnd c.in_default.not-End) (sym c.if-not-is_comment.ensures)

pub lines-smaller : goal.lines-smaller
lines-smaller c =
    let less = shorter c.skip_words.new.self.text.now c.next_token-token.result _ _ c.next_token-token.ensures.next (no_end _ c.in_default.not-End) in
    omega (arith, less, c.skip_words.ensures.no_longer)

pub lines-preserved : goal.lines-preserved
lines-preserved c =
    comment_line c.skip_words.new.self _ c.next_token-token.result
    (record { text = refl; next = c.next_token-token.ensures.next; stays = c.next_token-token.ensures.end_stays; last = refl })
    c.skip_words.ensures.between (is_word _ c.in_default.not-LineEnd c.in_default.not-End)
    (ap is_comment (sym c.text-bytes.ensures) ∙ sym c.if-not-is_comment.ensures)
    ∙ c.skip_words.ensures.lines ∙ c.lines.invariant
