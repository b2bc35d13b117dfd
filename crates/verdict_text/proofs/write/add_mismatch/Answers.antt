use Rattle.std.proofs.Common.{◌≡◌, ◌∙◌, ap, ◌++◌}
use Rattle.verdict_text.specs.Lines.{any_change_word, values_words, spaced, after_blank, row_words}
use Rattle.verdict_text.proofs.Joining.{mismatch_joined, on_ok}
use Rattle.verdict_text.proofs.write.add_mismatch.Goals as goal

pub returns : goal.returns
returns c =
    let m = c.in-Some.mismatch in
    on_ok c.add_values.result _ _ c.add_values.ensures
    (λ e. rw (e, c.in_ok-add_any_change.ensures, c.in_ok-add_row.ensures, c.in-Some.is)
    (mismatch_joined c.args.lines.now m.row (any_change_word m.change) (values_words m.liberty m.other)))
