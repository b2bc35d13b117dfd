use Rattle.std.proofs.Common.{sym, ◌∙◌, refl}
use Rattle.cdl_cards.proofs.LineEnds.{line_at, no_line, has_line, is_shorter, line_size}
use Rattle.cdl_cards.proofs.line.Lines.next_line.Goals as goal

pub returns-then-is_empty : goal.returns-then-is_empty
returns-then-is_empty c = no_line c.args.self.now.text.now (sym c.is_empty.ensures ∙ c.if-is_empty.true)

pub returns : goal.returns
returns c =
    let there = has_line c.args.self.now.text.now (sym c.is_empty.ensures ∙ c.if-is_empty.false) in
    record {
      lines = line_at c.args.self.now.text.now c.after_line-self.result.now c.until_line_end-size.result there c.until_line_end-size.ensures.value c.after_line-self.ensures;
      number = refl;
      size = line_size c.args.self.now.text.now c.until_line_end-size.result c.until_line_end-size.ensures.within;
      next = c.saturating_add-self.ensures;
      shorter = is_shorter c.args.self.now.text.now c.after_line-self.result.now there c.after_line-self.ensures;
    }
