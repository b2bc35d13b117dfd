use Rattle.std.proofs.Common.{◌≡◌, ◌∙◌, sym, ap, subst, map, None, Some, Err}
use Rattle.verdict_text.specs.Told.{Tells, told_result, lines_of, IsChecked}
use Rattle.verdict_text.specs.Block.{IsReadBack}
use Rattle.verdict_text.proofs.Checking.{not_told, read_so, if_ok}
use Rattle.verdict_text.proofs.block.read_block.Goals as goal

pub returns-in-Err-Unlike : goal.returns-in-Err-Unlike
returns-in-Err-Unlike c =
    let lines : map (λ l. l.now) c.in_ok-lines.lines.items ≡ lines_of c.args.text.now = c.in_ok-lines.ensures in
    let told : told_result (map (λ l. l.now) c.as_slice.result.now) ≡ None =
    subst (λ e. Tells (told_result (map (λ l. l.now) c.as_slice.result.now)) (Err e)) c.in-Err-Unlike.field-0-is c.in-Err-Unlike.ensures in
    not_told c.args.text.now (ap told_result (sym lines) ∙ (ap (λ xs. told_result (map (λ l. l.now) xs)) (sym c.as_slice.ensures.value) ∙ told))

pub returns : goal.returns
returns c =
    let lines : map (λ l. l.now) c.in_ok-lines.lines.items ≡ lines_of c.args.text.now = c.in_ok-lines.ensures in
    if_ok c.checked.result (IsChecked c.in-Ok.cell c.args.text.now) (IsReadBack c.args.text.now) c.checked.ensures
    (λ o h. read_so c.args.text.now c.in-Ok.cell o (ap told_result (sym lines) ∙ (ap (λ xs. told_result (map (λ l. l.now) xs)) (sym c.as_slice.ensures.value) ∙ c.in-Ok.ensures)) h)
