-- The compare text of a library.
use Rattle.std.specs.Prelude.{◌≡◌, ℕ, ◌+◌, Bool, true, false, if◌then◌else◌, List, [], ◌∷◌, ◌++◌, Option, Some, None, codes, decimal}
use Rattle.std.specs.List.{flat_map}
use Rattle.liberty_source.specs.declared.Library.{Library}
use Rattle.liberty_source.specs.declared.CellPart.{CellPart}
use Rattle.liberty_source.specs.Library.{cell_name}
use Rattle.verilog_source.specs.declared.Source.{Source}
use Rattle.verdict_text.specs.declared.finding.Finding.{Finding}
use Rattle.verdict_text.specs.Lines.{finding_line, reason_line}
use Rattle.cell_compare.specs.declared.comparison.Comparison.{Comparison}
use Rattle.cell_compare.specs.declared.comparison.Comparison.TheVariants.{Refused, Pins, Vectors}
use Rattle.cell_compare.specs.Compare.{IsComparison}
use Rattle.compare_text.specs.declared.verdict.CompareVerdict.{CompareVerdict}
use Rattle.compare_text.specs.declared.verdict.CompareVerdict.TheVariants as verdicts
use Rattle.compare_text.specs.declared.report.Totals.{Totals}
use Rattle.compare_text.specs.declared.report.CompareReport.{CompareReport}

-- words, ended by LF
abbrev pub line : List ℕ → List ℕ
line words = words ++ 10 ∷ []

-- ---- verdicts

abbrev pub vectors_verdict : Option Finding → CompareVerdict
vectors_verdict None = verdicts.Equal
vectors_verdict (Some f) = verdicts.Differs

abbrev pub verdict_of : Comparison → CompareVerdict
verdict_of (Refused r) = verdicts.Refused
verdict_of (Pins found) = verdicts.Differs
verdict_of (Vectors vectors defined first) = vectors_verdict first

abbrev pub verdict_word : CompareVerdict → List ℕ
verdict_word verdicts.Equal = codes "equal"
verdict_word verdicts.Differs = codes "differs"
verdict_word verdicts.Refused = codes "refused"

-- ---- a cell's block

abbrev pub first_lines : Option Finding → List ℕ
first_lines None = []
first_lines (Some f) = finding_line f

abbrev pub vectors_lines : ℕ → ℕ → Option Finding → List ℕ
vectors_lines vectors defined first =
    line (codes "vectors " ++ decimal vectors) ++ line (codes "defined " ++ decimal defined) ++ first_lines first

abbrev pub found_lines : Comparison → List ℕ
found_lines (Refused r) = reason_line r
found_lines (Pins found) = flat_map finding_line found
found_lines (Vectors vectors defined first) = vectors_lines vectors defined first

-- the cell's name, what was found, and the verdict
abbrev pub block : List ℕ → Comparison → List ℕ
block name c = line (codes "compare " ++ name) ++ found_lines c ++ line (codes "verdict " ++ verdict_word (verdict_of c))

abbrev pub blocks : List CellPart → List Comparison → List ℕ
blocks [] comparisons = []
blocks (p ∷ parts) [] = []
blocks (p ∷ parts) (c ∷ comparisons) = block (cell_name p) c ++ blocks parts comparisons

-- ---- totals

abbrev pub no_cells : Totals
no_cells = record { equal = 0; differs = 0; refused = 0 }

abbrev pub with_verdict : CompareVerdict → Totals → Totals
with_verdict verdicts.Equal t = record { equal = t.equal + 1; differs = t.differs; refused = t.refused }
with_verdict verdicts.Differs t = record { equal = t.equal; differs = t.differs + 1; refused = t.refused }
with_verdict verdicts.Refused t = record { equal = t.equal; differs = t.differs; refused = t.refused + 1 }

-- how many cells have each verdict
abbrev pub totals_of : List Comparison → Totals
totals_of [] = no_cells
totals_of (c ∷ comparisons) = with_verdict (verdict_of c) (totals_of comparisons)

abbrev pub total_words : Totals → List ℕ
total_words t = codes "total equal " ++ decimal t.equal ++ codes " differs " ++ decimal t.differs ++ codes " refused " ++ decimal t.refused

-- ---- the whole

-- what compare finds of each cell, in the order of the file
abbrev pub AreComparisons : List CellPart → Source → List Comparison → Type 0
AreComparisons [] source [] = Unit {0}
AreComparisons (p ∷ parts) source (c ∷ comparisons) = IsComparison p source c × AreComparisons parts source comparisons
AreComparisons [] source (c ∷ comparisons) = ⊥
AreComparisons (p ∷ parts) source [] = ⊥

abbrev pub compare_text : List CellPart → List Comparison → List ℕ
compare_text parts comparisons = blocks parts comparisons ++ line (total_words (totals_of comparisons)) ++ line (codes "end")

-- the report on a library beside a source text
pub record IsReport (library : Library) (source : Source) (report : CompareReport) : Type 0 where
  pub comparisons : List Comparison
  pub each : AreComparisons library.cells source comparisons
  pub text : report.text ≡ compare_text library.cells comparisons
  pub totals : report.totals ≡ totals_of comparisons
