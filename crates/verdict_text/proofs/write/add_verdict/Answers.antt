use Rattle.std.proofs.Common.{◌≡◌, ◌∙◌, ap, sym, ◌++◌, codes, append_assoc, map}
use Rattle.std.specs.List.{flat_map}
use Rattle.verdict_text.specs.Lines.{line, count_line, finding_text, finding_line}
use Rattle.verdict_text.proofs.Joining.{three_before, findings_joined, on_ok}
use Rattle.verdict_text.proofs.write.add_verdict.Goals as goal

pub returns-in_ok-add_count-in-Checked-2 : goal.returns-in_ok-add_count-in-Checked-2
returns-in_ok-add_count-in-Checked-2 c =
    let rows = count_line (codes "rows") c.in-Checked.rows in
    let defined = count_line (codes "defined") c.in-Checked.defined in
    on_ok c.add_findings.result _ _ c.add_findings.ensures
    (λ e. rw (e, c.in_ok-add_count-in-Checked-2.ensures, c.in_ok-add_count-in-Checked.ensures, c.in_ok-begin-in-Checked.ensures, c.as_slice.ensures, c.in-Checked.is)
    (three_before c.args.lines.now (codes "check full\n") rows defined (flat_map finding_line c.in-Checked.findings)
    ∙ ap (λ fs. c.args.lines.now ++ (codes "check full\n" ++ (rows ++ (defined ++ fs)))) (sym (findings_joined c.in-Checked.findings))))

pub returns-in_ok-begin-in-Unchecked : goal.returns-in_ok-begin-in-Unchecked
returns-in_ok-begin-in-Unchecked c =
    on_ok c.add_findings-in-Unchecked.result _ _ c.add_findings-in-Unchecked.ensures
    (λ e. rw (e, c.in_ok-begin-in-Unchecked.ensures, c.as_slice-in-Unchecked.ensures, c.in-Unchecked.is)
    (append_assoc c.args.lines.now (codes "check none\n") (flat_map finding_line c.in-Unchecked.findings)
    ∙ ap (λ fs. c.args.lines.now ++ (codes "check none\n" ++ fs)) (sym (findings_joined c.in-Unchecked.findings))))
