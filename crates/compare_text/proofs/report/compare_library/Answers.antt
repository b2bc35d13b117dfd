use Rattle.std.proofs.Common.{◌≡◌, ◌<◌, ◌≤◌, ◌+◌, ◌++◌, length, get_or, sym, ◌∙◌, ap, arith, codes, List, ℕ}
use Rattle.liberty_source.specs.declared.CellPart.{CellPart}
use Rattle.compare_text.specs.declared.report.CompareReport.{CompareReport}
use Rattle.compare_text.specs.declared.report.Totals.{Totals}
use Rattle.compare_text.specs.Text.{line, block, with_verdict}
use Rattle.compare_text.proofs.Growing.{next_cell, finished, count_more}
use Rattle.compare_text.proofs.Saying.{report_truly}
use Rattle.compare_text.proofs.report.compare_library.Goals as goal

pub loop-part-preserved : goal.loop-part-preserved
loop-part-preserved c =
    let library = c.args.library.now in
    let p = c.part-item.result in
    let k = c.in_ok-comparison.comparison in
    let inside : c.loop-part.part-index < length library.cells = rw (sym c.as_slice-part-items.ensures) c.loop-part-test.true in
    let text = c.in_ok-put_block.ensures ∙ ap (λ n. c.loop-part.text.items ++ block n k) (c.as_bytes.ensures ∙ c.cell_name.ensures) in
    let totals = c.with-totals.ensures ∙ ap (λ v. with_verdict v c.loop-part.totals) c.verdict_of.ensures in
    record {
      begun = next_cell library.cells c.loop-part.part-index c.args.models.now c.loop-part.text.items c.put_block.new.text.items c.loop-part.totals c.with-totals.result p k
          inside (c.part-item.is ∙ ap (λ (xs : List CellPart). get_or xs c.loop-part.part-index p) c.as_slice-part-items.ensures) c.loop-part.invariant.begun c.in_ok-comparison.ensures.comparison text totals;
      count = ap (λ (t : Totals). t.equal + t.differs + t.refused) c.with-totals.ensures ∙ count_more c.verdict_of.result c.loop-part.totals ∙ ap (λ (n : ℕ). n + 1) c.loop-part.invariant.count;
    }

pub returns-clause-equal : goal.returns-clause-equal
returns-clause-equal c =
    let report : CompareReport = record { text = c.from_vec.result; totals = c.loop-part.totals } in
    let all : length c.args.library.now.cells ≤ c.loop-part.part-index = rw (sym c.as_slice-part-items.ensures) (grind (arith, c.loop-part-test.false)) in
    let text = c.from_vec.ensures ∙ c.in_ok-put_line.ensures ∙ ap (λ (t : List ℕ). t ++ line (codes "end")) c.in_ok-put_totals.ensures in
    λ limits library source.
    report_truly limits c.args.models.now source (λ part k kept is. c.texts_can_be_shown.ensures limits part c.args.models.now k kept source is)
    (λ part k is says. c.equal_means_equal.ensures part c.args.models.now k is says) c.args.library.now report library
    (finished c.args.library.now c.args.models.now c.loop-part.part-index c.loop-part.text.items report all c.loop-part.invariant.begun text)
