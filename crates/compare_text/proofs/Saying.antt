-- What a report says of cells is so.
use Rattle.std.proofs.Common.{◌≡◌, ℕ, zero, suc, ◌+◌, refl, sym, ◌∙◌, ap, subst, arith, List, [], ◌∷◌, ◌++◌, append_assoc, append-nil, map, length, Option, Some, None, Bool, true, false, ◌&&◌, codes, decimal, slice_get}
use Rattle.std.specs.List.{flat_map, list_all}
use Rattle.std.proofs.lemmas.List.Folds.{list_all-append}
use Rattle.tern_core.specs.declared.tern.Tern.{Tern}
use Rattle.tern_core.specs.declared.tern.Tern.TheVariants.{Zero, One, Unknown}
use Rattle.tern_core.specs.Values.{symbol_of}
use Rattle.text_scan.specs.declared.limits.Limits.{Limits}
use Rattle.text_scan.specs.declared.limits.LimitKind.{LimitKind}
use Rattle.text_scan.specs.declared.limits.LimitKind.TheVariants as kinds
use Rattle.text_scan.specs.Limits.{word_of}
use Rattle.file_rules.specs.Names.{are_graphic}
use Rattle.file_rules.specs.Kept.{both_true}
use Rattle.liberty_source.specs.declared.Library.{Library}
use Rattle.liberty_source.specs.declared.CellPart.{CellPart}
use Rattle.liberty_source.specs.declared.CellPart.TheVariants as cells
use Rattle.liberty_source.specs.Library.{cell_name, is_part, IsLibrary}
use Rattle.verilog_source.specs.declared.Source.{Source}
use Rattle.verilog_source.specs.Source.{IsSource}
use Rattle.verdict_text.specs.Words.{view_word, code_word}
use Rattle.verdict_text.specs.Lines.{after_blank, spaced, value_word, change_word, pin_word, any_change_word, mismatch_words, waived_words, finding_words, reason_words, finding_text, reason_text, finding_line, reason_line}
use Rattle.verdict_text.specs.declared.finding.View.{View}
use Rattle.verdict_text.specs.declared.finding.View.TheVariants as views
use Rattle.verdict_text.specs.declared.finding.Code.{Code}
use Rattle.verdict_text.specs.declared.finding.Code.TheVariants as codes_of
use Rattle.verdict_text.specs.declared.finding.Change.{Change}
use Rattle.verdict_text.specs.declared.finding.Mismatch.{Mismatch}
use Rattle.verdict_text.specs.declared.finding.Finding.{Finding}
use Rattle.verdict_text.specs.declared.reason.Reason.{Reason}
use Rattle.verdict_text.specs.declared.reason.Reason.TheVariants.{Construct, UnknownName, BadFunction, BadStateRow, UdpRow, UdpRows, Loop, TwoDrivers, UnknownUdp, PortCount, UnknownModel, SupplyShort, FloatRead, BadShape, Limit, NoTable, EmptyTable, TableShape, RowNotAtRest, NotClosed, Moving}
use Rattle.cell_compare.specs.declared.comparison.Comparison.{Comparison}
use Rattle.cell_compare.specs.declared.comparison.Comparison.TheVariants.{Refused, Pins, Vectors}
use Rattle.cell_compare.specs.Compare.{IsComparison}
use Rattle.cell_compare.specs.Equal.{SaysEqual, IsEqualPart}
use Rattle.cell_compare.proofs.Graphic.{all_parts, all_joined, within_graphic}
use Rattle.cell_compare.specs.Telling.{change_texts, mismatch_texts, pin_texts, finding_texts, reason_texts, told_texts, AreGraphic}
use Rattle.compare_text.specs.declared.report.CompareReport.{CompareReport}
use Rattle.compare_text.specs.Text.{line, first_lines, block, found_lines, verdict_of, verdict_word, blocks, compare_text, total_words, totals_of, AreComparisons, IsReport}
use Rattle.compare_text.specs.Said.{SaidCell, lines_of, behind, first_behind, said_by, cells_said}
use Rattle.compare_text.specs.Blocks.{cells_compared, IsSaidTruly, SaysEqualTruly}
use Rattle.compare_text.proofs.Lines.{is_line, is_quiet, one_line, many_lines, joined_line, graphic_line, decimal_line, quiet_first, quiet_said, front_lines, said_gone_on}

-- ---- words have no line end

view_line : (v : View) → is_line (view_word v) ≡ true
view_line views.Liberty = refl
view_line views.Verilog = refl
view_line views.Cdl = refl
view_line views.Lef = refl

code_line : (c : Code) → is_line (code_word c) ≡ true
code_line codes_of.P1 = refl
code_line codes_of.P2 = refl
code_line codes_of.P3 = refl
code_line codes_of.P4 = refl
code_line codes_of.H1 = refl
code_line codes_of.H2 = refl
code_line codes_of.H3 = refl
code_line codes_of.H4 = refl
code_line codes_of.H5 = refl
code_line codes_of.M1 = refl
code_line codes_of.M2 = refl
code_line codes_of.Z1 = refl
code_line codes_of.Z2 = refl

value_line : (t : Tern) → is_line (value_word t) ≡ true
value_line Zero = refl
value_line One = refl
value_line Unknown = refl

kind_line : (k : LimitKind) → is_line (word_of k) ≡ true
kind_line kinds.Inputs = refl
kind_line kinds.Gates = refl
kind_line kinds.Transistors = refl
kind_line kinds.Nodes = refl
kind_line kinds.Rows = refl
kind_line kinds.Pins = refl
kind_line kinds.UdpInputs = refl
kind_line kinds.Cells = refl
kind_line kinds.Name = refl
kind_line kinds.Nesting = refl
kind_line kinds.Records = refl
kind_line kinds.Rects = refl

text_line : (text : List ℕ) (rest : List (List ℕ)) → AreGraphic (text ∷ rest) → is_line text ≡ true
text_line text rest h = graphic_line text (both_true _ _ h).0

-- words with a blank before each
spaced_line : (ws : List (List ℕ)) → list_all is_line ws ≡ true → is_line (spaced ws) ≡ true
spaced_line [] h = refl
spaced_line (w ∷ ws) h =
    let both : (is_line w ≡ true) × (list_all is_line ws ≡ true) = both_true _ _ h in
    joined_line (after_blank w) (spaced ws) both.0 (spaced_line ws both.1)

change_line : (c : Change) (rest : List (List ℕ)) → AreGraphic (c.pin ∷ rest) → is_line (change_word c) ≡ true
change_line c rest h = joined_line c.pin (61 ∷ value_word c.value) (text_line c.pin rest h) (value_line c.value)

any_change_line : (c : Option Change) → AreGraphic (change_texts c) → is_line (any_change_word c) ≡ true
any_change_line None h = refl
any_change_line (Some c) h = change_line c [] h

reason_lines : (r : Reason) → AreGraphic (reason_texts r) → list_all is_line (reason_words r) ≡ true
reason_lines (Construct view word line) h = rw (view_line view, decimal_line line, text_line word [] h) refl
reason_lines (UnknownName name) h = rw (text_line name [] h) refl
reason_lines (BadFunction owner place) h = rw (text_line owner [] h, decimal_line place) refl
reason_lines (BadStateRow row) h = rw (decimal_line row) refl
reason_lines (UdpRow udp row) h = rw (text_line udp [] h, decimal_line row) refl
reason_lines (UdpRows udp first second) h = rw (text_line udp [] h, decimal_line first, decimal_line second) refl
reason_lines (Loop net) h = rw (text_line net [] h) refl
reason_lines (TwoDrivers net) h = rw (text_line net [] h) refl
reason_lines (UnknownUdp name) h = rw (text_line name [] h) refl
reason_lines (PortCount label) h = rw (text_line label [] h) refl
reason_lines (UnknownModel name) h = rw (text_line name [] h) refl
reason_lines (SupplyShort node) h = rw (text_line node [] h) refl
reason_lines (FloatRead net) h = rw (text_line net [] h) refl
reason_lines (BadShape pin index) h = rw (text_line pin [] h, decimal_line index) refl
reason_lines (Limit kind number) h = rw (kind_line kind, decimal_line number) refl
reason_lines NoTable h = refl
reason_lines EmptyTable h = refl
reason_lines (TableShape line) h = rw (decimal_line line) refl
reason_lines (RowNotAtRest row place) h = rw (decimal_line row, text_line place [] h) refl
reason_lines (NotClosed row change) h = rw (decimal_line row, change_line change [] h) refl
reason_lines (Moving row change node) h =
    let both : (are_graphic change.pin ≡ true) × (list_all are_graphic (node ∷ []) ≡ true) = both_true _ _ h in
    rw (decimal_line row, change_line change (node ∷ []) h, text_line node [] both.1) refl

pin_line : (pin : Option (List ℕ)) → AreGraphic (pin_texts pin) → is_line (pin_word pin) ≡ true
pin_line None h = refl
pin_line (Some pin) h = text_line pin [] h

mismatch_lines : (m : Option Mismatch) → AreGraphic (mismatch_texts m) → list_all is_line (mismatch_words m) ≡ true
mismatch_lines None h = refl
mismatch_lines (Some m) h = rw (decimal_line m.row, any_change_line m.change h, value_line m.liberty, value_line m.other) refl

waived_lines : (w : Option ℕ) → list_all is_line (waived_words w) ≡ true
waived_lines None = refl
waived_lines (Some n) = rw (decimal_line n) refl

finding_lines : (f : Finding) → AreGraphic (finding_texts f) → list_all is_line (finding_words f) ≡ true
finding_lines f h =
    let texts = all_parts are_graphic (pin_texts f.pin) (mismatch_texts f.mismatch) h in
    rw (
      code_line f.code,
      pin_line f.pin texts.0,
      view_line f.view,
      list_all-append is_line (mismatch_words f.mismatch) (waived_words f.waiver),
      mismatch_lines f.mismatch texts.1,
      waived_lines f.waiver,
    ) refl

finding_line_of : (f : Finding) → AreGraphic (finding_texts f) → is_line (finding_text f) ≡ true
finding_line_of f h = joined_line (codes "finding") (spaced (finding_words f)) refl (spaced_line (finding_words f) (finding_lines f h))

reason_line_of : (r : Reason) → AreGraphic (reason_texts r) → is_line (reason_text r) ≡ true
reason_line_of r h = joined_line (codes "refused") (spaced (reason_words r)) refl (spaced_line (reason_words r) (reason_lines r h))

-- ---- a block as lines

first_front : Option Finding → List (List ℕ)
first_front None = []
first_front (Some f) = finding_text f ∷ []

found_front : Comparison → List (List ℕ)
found_front (Refused r) = reason_text r ∷ []
found_front (Pins found) = map finding_text found
found_front (Vectors n d first) = (codes "vectors " ++ decimal n) ∷ (codes "defined " ++ decimal d) ∷ first_front first

findings_joined : (found : List Finding) → flat_map finding_line found ≡ flat_map line (map finding_text found)
findings_joined [] = refl
findings_joined (f ∷ found) = ap (λ rest. finding_line f ++ rest) (findings_joined found)

first_joined : (first : Option Finding) → first_lines first ≡ flat_map line (first_front first)
unfolding first_front
first_joined None = refl
first_joined (Some f) = sym (append-nil (finding_line f))

found_joined : (c : Comparison) → found_lines c ≡ flat_map line (found_front c)
unfolding found_front
found_joined (Refused r) = sym (append-nil (reason_line r))
found_joined (Pins found) = findings_joined found
found_joined (Vectors n d first) =
    append_assoc (line (codes "vectors " ++ decimal n)) (line (codes "defined " ++ decimal d)) (first_lines first)
    ∙ ap (λ rest. line (codes "vectors " ++ decimal n) ++ (line (codes "defined " ++ decimal d) ++ rest)) (first_joined first)

findings_line : (found : List Finding) → AreGraphic (flat_map finding_texts found) → list_all is_line (map finding_text found) ≡ true
findings_line [] h = refl
findings_line (f ∷ found) h =
    let parts = all_parts are_graphic (finding_texts f) (flat_map finding_texts found) h in
    let rest : list_all is_line (map finding_text found) ≡ true = findings_line found parts.1 in
    rw (finding_line_of f parts.0, rest) refl

found_line : (c : Comparison) → AreGraphic (told_texts c) → list_all is_line (found_front c) ≡ true
unfolding found_front first_front
found_line (Refused r) h = rw (reason_line_of r h) refl
found_line (Pins found) h = findings_line found h
found_line (Vectors n d None) h =
    let one : is_line (codes "vectors " ++ decimal n) ≡ true = joined_line (codes "vectors ") (decimal n) refl (decimal_line n) in
    let two : is_line (codes "defined " ++ decimal d) ≡ true = joined_line (codes "defined ") (decimal d) refl (decimal_line d) in
    rw (one, two) refl
found_line (Vectors n d (Some f)) h =
    let one : is_line (codes "vectors " ++ decimal n) ≡ true = joined_line (codes "vectors ") (decimal n) refl (decimal_line n) in
    let two : is_line (codes "defined " ++ decimal d) ≡ true = joined_line (codes "defined ") (decimal d) refl (decimal_line d) in
    rw (one, two, finding_line_of f h) refl

front : List ℕ
front = codes "compare "

findings_quiet : (found : List Finding) → list_all (is_quiet front) (map finding_text found) ≡ true
unfolding front
findings_quiet [] = refl
findings_quiet (f ∷ found) = findings_quiet found

found_quiet : (c : Comparison) → list_all (is_quiet front) (found_front c) ≡ true
unfolding front found_front first_front
found_quiet (Refused r) = refl
found_quiet (Pins found) = findings_quiet found
found_quiet (Vectors n d None) = refl
found_quiet (Vectors n d (Some f)) = refl

verdict_line : (c : Comparison) → is_line (codes "verdict " ++ verdict_word (verdict_of c)) ≡ true
verdict_line (Refused r) = refl
verdict_line (Pins found) = refl
verdict_line (Vectors n d None) = refl
verdict_line (Vectors n d (Some f)) = refl

block_front : List ℕ → Comparison → List (List ℕ)
block_front name c = (codes "compare " ++ name) ∷ (found_front c ++ (codes "verdict " ++ verdict_word (verdict_of c)) ∷ [])

flat_ends : (ws : List (List ℕ)) (w : List ℕ) → flat_map line (ws ++ w ∷ []) ≡ flat_map line ws ++ line w
flat_ends [] w = append-nil (line w)
flat_ends (x ∷ ws) w = ap (λ rest. line x ++ rest) (flat_ends ws w) ∙ sym (append_assoc (line x) (flat_map line ws) (line w))

block_joined : (name : List ℕ) (c : Comparison) → block name c ≡ flat_map line (block_front name c)
unfolding block_front
block_joined name c =
    append_assoc (line (codes "compare " ++ name)) (found_lines c) (line (codes "verdict " ++ verdict_word (verdict_of c)))
    ∙ ap (λ rest. line (codes "compare " ++ name) ++ (rest ++ line (codes "verdict " ++ verdict_word (verdict_of c)))) (found_joined c)
    ∙ ap (λ rest. line (codes "compare " ++ name) ++ rest) (sym (flat_ends (found_front c) (codes "verdict " ++ verdict_word (verdict_of c))))

block_line : (name : List ℕ) (c : Comparison) → are_graphic name ≡ true → AreGraphic (told_texts c) → list_all is_line (block_front name c) ≡ true
unfolding block_front
block_line name c h g =
    let first : is_line (codes "compare " ++ name) ≡ true = joined_line (codes "compare ") name refl (graphic_line name h) in
    let last : list_all is_line ((codes "verdict " ++ verdict_word (verdict_of c)) ∷ []) ≡ true = rw (verdict_line c) refl in
    let rest : list_all is_line (found_front c ++ (codes "verdict " ++ verdict_word (verdict_of c)) ∷ []) ≡ true =
    all_joined is_line (found_front c) _ (found_line c g) last in
    rw (first, rest) refl

said : List ℕ → Comparison → SaidCell
said name c = record { name = name; verdict = Some (verdict_word (verdict_of c)) }

first_verdict : (word : List ℕ) (ls : List (List ℕ)) → first_behind (codes "verdict ") ((codes "verdict " ++ word) ∷ ls) ≡ Some word
unfolding first_behind
first_verdict word ls = refl

verdict_unsaid : (word : List ℕ) (ls : List (List ℕ)) → cells_said front ((codes "verdict " ++ word) ∷ ls) ≡ cells_said front ls
unfolding cells_said front
verdict_unsaid word ls = refl

name_said : (name : List ℕ) (ls : List (List ℕ)) → cells_said front ((codes "compare " ++ name) ∷ ls) ≡ record { name = name; verdict = first_behind (codes "verdict ") ls } ∷ cells_said front ls
unfolding cells_said front
name_said name ls = refl

block_said : (name : List ℕ) (c : Comparison) (ls : List (List ℕ)) → cells_said front (block_front name c ++ ls) ≡ said name c ∷ cells_said front ls
unfolding block_front said
block_said name c ls =
    let word = verdict_word (verdict_of c) in
    let tail : (found_front c ++ (codes "verdict " ++ word) ∷ []) ++ ls ≡ found_front c ++ ((codes "verdict " ++ word) ∷ ls) = append_assoc (found_front c) ((codes "verdict " ++ word) ∷ []) ls in
    name_said name ((found_front c ++ (codes "verdict " ++ word) ∷ []) ++ ls)
    ∙ ap (λ rest. record { name = name; verdict = first_behind (codes "verdict ") rest } ∷ cells_said front rest) tail
    ∙ ap (λ v. record { name = name; verdict = v } ∷ cells_said front (found_front c ++ ((codes "verdict " ++ word) ∷ ls)))
    (quiet_first front (found_front c) ((codes "verdict " ++ word) ∷ ls) (found_quiet c) ∙ first_verdict word ls)
    ∙ ap (λ cs. record { name = name; verdict = Some word } ∷ cs) (quiet_said front (found_front c) ((codes "verdict " ++ word) ∷ ls) (found_quiet c) ∙ verdict_unsaid word ls)

-- ---- the report

module _ (limits : Limits) (source : Source) (is : IsSource limits source)
    (shown : (part : CellPart) (c : Comparison) → is_part limits part ≡ true → IsComparison part source c → AreGraphic (told_texts c))
    (law : (part : CellPart) (c : Comparison) → IsComparison part source c → SaysEqual c → IsEqualPart part source) where
  name_graphic : (p : CellPart) → is_part limits p ≡ true → are_graphic (cell_name p) ≡ true
  name_graphic (cells.Whole cell) h = within_graphic limits cell.name (both_true _ _ (both_true _ _ (both_true _ _ h).0).0).0
  name_graphic (cells.Refused name construct line) h = within_graphic limits name (both_true _ _ h).0

  saids : List CellPart → List Comparison → List SaidCell
  saids [] cs = []
  saids (p ∷ parts) [] = []
  saids (p ∷ parts) (c ∷ cs) = said (cell_name p) c ∷ saids parts cs

  blocks_said : (parts : List CellPart) (cs : List Comparison) (rest : List ℕ) → list_all (is_part limits) parts ≡ true → AreComparisons parts source cs → cells_said front (lines_of rest) ≡ []
      → cells_said front (lines_of (blocks parts cs ++ rest)) ≡ saids parts cs
  unfolding saids
  blocks_said [] [] rest h a e = e
  blocks_said [] (c ∷ cs) rest h a e = absurd a
  blocks_said (p ∷ parts) [] rest h a e = absurd a
  blocks_said (p ∷ parts) (c ∷ cs) rest h a e =
      let b : (is_part limits p ≡ true) × (list_all (is_part limits) parts ≡ true) = both_true _ _ h in
      let more : List ℕ = blocks parts cs ++ rest in
      let text : (block (cell_name p) c ++ blocks parts cs) ++ rest ≡ flat_map line (block_front (cell_name p) c) ++ more =
      append_assoc (block (cell_name p) c) (blocks parts cs) rest ∙ ap (λ t. t ++ more) (block_joined (cell_name p) c) in
      let whole : list_all is_line (block_front (cell_name p) c) ≡ true = block_line (cell_name p) c (name_graphic p b.0) (shown p c b.0 a.0) in
      ap (λ t. cells_said front (lines_of t)) text
      ∙ ap (cells_said front) (many_lines (block_front (cell_name p) c) more whole)
      ∙ block_said (cell_name p) c (lines_of more)
      ∙ ap (λ ss. said (cell_name p) c ∷ ss) (blocks_said parts cs rest b.1 a.1 e)

  equal_words : (c : Comparison) → verdict_word (verdict_of c) ≡ codes "equal" → SaysEqual c
  equal_words (Refused r) e = absurd (let f : 114 ∷ codes "efused" ≡ 101 ∷ codes "qual" = e in cc)
  equal_words (Pins found) e = absurd (let f : 100 ∷ codes "iffers" ≡ 101 ∷ codes "qual" = e in cc)
  equal_words (Vectors n d None) e = tt
  equal_words (Vectors n d (Some f)) e = absurd (let g : 100 ∷ codes "iffers" ≡ 101 ∷ codes "qual" = e in cc)

  -- what is said of the k-th of these cells
  pub record IsSaidOf (parts : List CellPart) (k : ℕ) (s : SaidCell) : Type 0 where
    pub part : CellPart
    pub is_cell : slice_get parts k ≡ Some part
    pub name : s.name ≡ cell_name part
    pub equal : s.verdict ≡ Some (codes "equal") → IsEqualPart part source

  said_truly : (parts : List CellPart) (cs : List Comparison) → AreComparisons parts source cs → (k : ℕ) (s : SaidCell) → slice_get (saids parts cs) k ≡ Some s → IsSaidOf parts k s
  unfolding saids said
  said_truly [] cs a k s e = absurd cc
  said_truly (p ∷ parts) [] a k s e = absurd a
  said_truly (p ∷ parts) (c ∷ cs) a zero s e =
      let is_said : record { name = cell_name p; verdict = Some (verdict_word (verdict_of c)) } ≡ s = cc in
      let word : Some (verdict_word (verdict_of c)) ≡ s.verdict = ap (λ (x : SaidCell). x.verdict) is_said in
      record {
        part = p;
        is_cell = refl;
        name = sym (ap (λ (x : SaidCell). x.name) is_said);
        equal = λ f. law p c a.0 (equal_words c (let both : Some (verdict_word (verdict_of c)) ≡ Some (codes "equal") = word ∙ f in cc));
      }
  said_truly (p ∷ parts) (c ∷ cs) a (suc k) s e =
      let r = said_truly parts cs a.1 k s e in
      record { part = r.part; is_cell = r.is_cell; name = r.name; equal = r.equal }

  end_line : is_line (codes "end") ≡ true
  end_line = refl

  total_line : (cs : List Comparison) → is_line (total_words (totals_of cs)) ≡ true
  total_line cs =
      let t = totals_of cs in
      joined_line (codes "total equal " ++ decimal t.equal ++ codes " differs " ++ decimal t.differs ++ codes " refused ") (decimal t.refused)
      (joined_line (codes "total equal " ++ decimal t.equal ++ codes " differs " ++ decimal t.differs) (codes " refused ")
      (joined_line (codes "total equal " ++ decimal t.equal ++ codes " differs ") (decimal t.differs)
      (joined_line (codes "total equal " ++ decimal t.equal) (codes " differs ") (joined_line (codes "total equal ") (decimal t.equal) refl (decimal_line t.equal)) refl) (decimal_line t.differs)) refl) (decimal_line t.refused)

  nothing_said : (cs : List Comparison) → cells_said front (lines_of (line (total_words (totals_of cs)) ++ line (codes "end"))) ≡ []
  unfolding cells_said front lines_of
  nothing_said cs =
      ap (λ t. cells_said front (lines_of t)) (append_assoc (total_words (totals_of cs)) (10 ∷ []) (line (codes "end")))
      ∙ ap (cells_said front) (one_line (total_words (totals_of cs)) (line (codes "end")) (total_line cs))

  pub report_truly : (library : Library) (report : CompareReport) → IsLibrary limits library → IsReport library source report → SaysEqualTruly library source report.text
  unfolding front
  report_truly library report kept r k s e =
      let rest : List ℕ = line (total_words (totals_of r.comparisons)) ++ line (codes "end") in
      let text : report.text ≡ blocks library.cells r.comparisons ++ rest =
      r.text ∙ append_assoc (blocks library.cells r.comparisons) (line (total_words (totals_of r.comparisons))) (line (codes "end")) in
      let all : cells_compared report.text ≡ saids library.cells r.comparisons =
      ap (λ t. cells_said front (lines_of t)) text ∙ blocks_said library.cells r.comparisons rest kept.cells r.each (nothing_said r.comparisons) in
      let t = said_truly library.cells r.comparisons r.each k s (sym (ap (λ ss. slice_get ss k) all) ∙ e) in
      record { part = t.part; is_cell = t.is_cell; name = t.name; equal = t.equal }

-- ---- a first part of a text

pub part_truly : (library : Library) (source : Source) (part rest : List ℕ) → SaysEqualTruly library source (part ++ rest) → SaysEqualTruly library source part
part_truly library source part rest h k s e =
    let more = front_lines part rest in
    let on = said_gone_on (codes "compare ") (lines_of part) more.0 k s e in
    let there : slice_get (cells_compared (part ++ rest)) k ≡ Some on.0 = ap (λ ls. slice_get (cells_said (codes "compare ") ls) k) more.1 ∙ on.1 in
    let t = h k on.0 there in
    record { part = t.part; is_cell = t.is_cell; name = sym on.2.name ∙ t.name; equal = λ f. t.equal (on.2.verdict (codes "equal") f) }
