-- A library has one report with a source text.
use Rattle.std.proofs.Common.{◌≡◌, ℕ, List, [], ◌∷◌, refl, sym, ◌∙◌, ap}
use Rattle.liberty_source.specs.declared.Library.{Library}
use Rattle.liberty_source.specs.declared.CellPart.{CellPart}
use Rattle.verilog_source.specs.declared.Source.{Source}
use Rattle.cell_compare.specs.declared.comparison.Comparison.{Comparison}
use Rattle.cell_compare.proofs.OneComparison.{one_comparison}
use Rattle.compare_text.specs.declared.report.Totals.{Totals}
use Rattle.compare_text.specs.declared.report.CompareReport.{CompareReport}
use Rattle.compare_text.specs.Text.{AreComparisons, compare_text, totals_of, IsReport}

pub one_list : (parts : List CellPart) (source : Source) (comparisons others : List Comparison) → AreComparisons parts source comparisons → AreComparisons parts source others → comparisons ≡ others
one_list [] source [] [] h k = refl
one_list [] source [] (o ∷ others) h k = absurd k
one_list [] source (c ∷ comparisons) others h k = absurd h
one_list (p ∷ parts) source [] others h k = absurd h
one_list (p ∷ parts) source (c ∷ comparisons) [] h k = absurd k
one_list (p ∷ parts) source (c ∷ comparisons) (o ∷ others) h k =
    ap (λ z. z ∷ comparisons) (one_comparison p source c o h.0 k.0) ∙ ap (λ z. o ∷ z) (one_list parts source comparisons others h.1 k.1)

pub one_report : (library : Library) (source : Source) (r s : CompareReport) → IsReport library source r → IsReport library source s → r ≡ s
one_report library source r s h k =
    let same : h.comparisons ≡ k.comparisons = one_list library.cells source h.comparisons k.comparisons h.each k.each in
    let text : r.text ≡ s.text = h.text ∙ ap (compare_text library.cells) same ∙ sym k.text in
    let totals : r.totals ≡ s.totals = h.totals ∙ ap totals_of same ∙ sym k.totals in
    let make : List ℕ → Totals → CompareReport = λ t n. record { text = t; totals = n } in
    ap (λ t. make t r.totals) text ∙ ap (λ n. make s.text n) totals
