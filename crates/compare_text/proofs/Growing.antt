-- A report that grows by a cell.
use Rattle.std.proofs.Common.{◌≡◌, ◌≤◌, ◌<◌, ℕ, zero, suc, ◌+◌, take, get_or, subst, codes, refl, sym, ◌∙◌, ap, arith, List, [], ◌∷◌, ◌++◌, append_assoc, append-nil, length}
use Rattle.liberty_source.specs.declared.CellPart.{CellPart}
use Rattle.verilog_source.specs.declared.Source.{Source}
use Rattle.cell_compare.specs.declared.comparison.Comparison.{Comparison}
use Rattle.cell_compare.specs.Compare.{IsComparison}
use Rattle.compare_text.specs.declared.verdict.CompareVerdict.{CompareVerdict}
use Rattle.compare_text.specs.declared.verdict.CompareVerdict.TheVariants.{Equal, Differs, Refused}
use Rattle.liberty_source.specs.declared.Library.{Library}
use Rattle.compare_text.specs.declared.report.Totals.{Totals}
use Rattle.compare_text.specs.declared.report.CompareReport.{CompareReport}
use Rattle.compare_text.specs.Text.{verdict_of, block, line, blocks, with_verdict, no_cells, totals_of, total_words, AreComparisons, IsReport}
use Rattle.liberty_source.specs.Library.{cell_name}

either_order : (v w : CompareVerdict) (t : Totals) → with_verdict v (with_verdict w t) ≡ with_verdict w (with_verdict v t)
either_order Equal Equal t = refl
either_order Equal Differs t = refl
either_order Equal Refused t = refl
either_order Differs Equal t = refl
either_order Differs Differs t = refl
either_order Differs Refused t = refl
either_order Refused Equal t = refl
either_order Refused Differs t = refl
either_order Refused Refused t = refl

more_totals : (cs : List Comparison) (c : Comparison) → totals_of (cs ++ c ∷ []) ≡ with_verdict (verdict_of c) (totals_of cs)
more_totals [] c = refl
more_totals (d ∷ cs) c = ap (with_verdict (verdict_of d)) (more_totals cs c) ∙ either_order (verdict_of d) (verdict_of c) (totals_of cs)

more_blocks : (parts : List CellPart) (source : Source) (cs : List Comparison) (p : CellPart) (c : Comparison) → AreComparisons parts source cs
    → blocks (parts ++ p ∷ []) (cs ++ c ∷ []) ≡ blocks parts cs ++ block (cell_name p) c
more_blocks [] source [] p c a = append-nil (block (cell_name p) c)
more_blocks [] source (d ∷ cs) p c a = absurd a
more_blocks (q ∷ parts) source [] p c a = absurd a
more_blocks (q ∷ parts) source (d ∷ cs) p c a =
    ap (λ text. block (cell_name q) d ++ text) (more_blocks parts source cs p c a.1) ∙ sym (append_assoc (block (cell_name q) d) (blocks parts cs) (block (cell_name p) c))

more_each : (parts : List CellPart) (source : Source) (cs : List Comparison) (p : CellPart) (c : Comparison) → AreComparisons parts source cs → IsComparison p source c
    → AreComparisons (parts ++ p ∷ []) source (cs ++ c ∷ [])
more_each [] source [] p c a i = (i, tt)
more_each [] source (d ∷ cs) p c a i = absurd a
more_each (q ∷ parts) source [] p c a i = absurd a
more_each (q ∷ parts) source (d ∷ cs) p c a i = (a.0, more_each parts source cs p c a.1 i)

-- the report on the cells so far
pub record IsBegun (parts : List CellPart) (source : Source) (text : List ℕ) (totals : Totals) : Type 0 where
  pub comparisons : List Comparison
  pub each : AreComparisons parts source comparisons
  pub text_is : text ≡ blocks parts comparisons
  pub totals_are : totals ≡ totals_of comparisons

pub begun : (source : Source) (text : List ℕ) (totals : Totals) → text ≡ [] → totals ≡ no_cells → IsBegun [] source text totals
begun source text totals e f = record { comparisons = []; each = tt; text_is = e; totals_are = f }

pub more : (parts : List CellPart) (source : Source) (text text' : List ℕ) (totals totals' : Totals) (p : CellPart) (c : Comparison)
    → IsBegun parts source text totals → IsComparison p source c → text' ≡ text ++ block (cell_name p) c → totals' ≡ with_verdict (verdict_of c) totals
    → IsBegun (parts ++ p ∷ []) source text' totals'
more parts source text text' totals totals' p c b i e f = record {
  comparisons = b.comparisons ++ c ∷ [];
  each = more_each parts source b.comparisons p c b.each i;
  text_is = e ∙ ap (λ t. t ++ block (cell_name p) c) b.text_is ∙ sym (more_blocks parts source b.comparisons p c b.each);
  totals_are = f ∙ ap (with_verdict (verdict_of c)) b.totals_are ∙ sym (more_totals b.comparisons c);
}

pub count_more : (v : CompareVerdict) (t : Totals) → (with_verdict v t).equal + (with_verdict v t).differs + (with_verdict v t).refused ≡ t.equal + t.differs + t.refused + 1
count_more Equal t = omega arith
count_more Differs t = omega arith
count_more Refused t = omega arith

take_more : {X : Type 0} (xs : List X) (k : ℕ) (x : X) → k < length xs → x ≡ get_or xs k x → take (k + 1) xs ≡ take k xs ++ x ∷ []
take_more [] k x h e = absurd (omega arith)
take_more (y ∷ xs) zero x h e = let f : x ≡ y = e in rw f refl
take_more (y ∷ xs) (suc k) x h e =
    let n : suc k + 1 ≡ suc (k + 1) = omega arith in
    ap (λ i. take i (y ∷ xs)) n ∙ ap (λ ys. y ∷ ys) (take_more xs k x (omega arith) e)

take_all : {X : Type 0} (xs : List X) (k : ℕ) → length xs ≤ k → take k xs ≡ xs
take_all [] zero h = refl
take_all [] (suc k) h = refl
take_all (x ∷ xs) zero h = absurd (omega arith)
take_all (x ∷ xs) (suc k) h = ap (λ ys. x ∷ ys) (take_all xs k (omega arith))

-- the next cell
pub next_cell : (parts : List CellPart) (k : ℕ) (source : Source) (text text' : List ℕ) (totals totals' : Totals) (p : CellPart) (c : Comparison)
    → k < length parts → p ≡ get_or parts k p → IsBegun (take k parts) source text totals → IsComparison p source c → text' ≡ text ++ block (cell_name p) c → totals' ≡ with_verdict (verdict_of c) totals
    → IsBegun (take (k + 1) parts) source text' totals'
next_cell parts k source text text' totals totals' p c h e b i f g =
    subst (λ ps. IsBegun ps source text' totals') (sym (take_more parts k p h e)) (more (take k parts) source text text' totals totals' p c b i f g)

pub finished : (library : Library) (source : Source) (k : ℕ) (text : List ℕ) (report : CompareReport) → length library.cells ≤ k → IsBegun (take k library.cells) source text report.totals
    → report.text ≡ text ++ line (total_words report.totals) ++ line (codes "end") → IsReport library source report
finished library source k text report h b e =
    let whole = subst (λ ps. IsBegun ps source text report.totals) (take_all library.cells k h) b in
    record {
      comparisons = whole.comparisons;
      each = whole.each;
      text = e ∙ ap (λ t. t ++ line (total_words report.totals) ++ line (codes "end")) whole.text_is ∙ ap (λ t. blocks library.cells whole.comparisons ++ line (total_words t) ++ line (codes "end")) whole.totals_are;
      totals = whole.totals_are;
    }

-- three counts after their words, and LF
pub three_counts : (old one two three four a e b d r f : List ℕ) → one ≡ old ++ a ++ e → two ≡ one ++ b ++ d → three ≡ two ++ r ++ f → four ≡ three ++ 10 ∷ []
    → four ≡ old ++ (a ++ e ++ b ++ d ++ r ++ f ++ 10 ∷ [])
three_counts old one two three four a e b d r f p q s t = rw (t, s, q, p) (simp append_assoc)
