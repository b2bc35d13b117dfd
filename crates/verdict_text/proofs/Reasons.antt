-- Refusals and findings are told by the words of their lines.
use Rattle.std.proofs.Common.{◌≡◌, refl, ◌∙◌, sym, ap, ℕ, Bool, true, false, not, ◌&&◌, nat_le, List, [], ◌∷◌, ◌++◌, length, map, Option, Some, None, arith, codes, decimal}
use Rattle.std.specs.List.{list_all}
use Rattle.std.specs.Option.{option_map, option_and_then}
use Rattle.std.proofs.lemmas.List.Folds.{list_all-append}
use Rattle.text_scan.specs.Limits.{word_of}
use Rattle.file_rules.specs.Names.{is_shown, are_graphic}
use Rattle.file_rules.specs.Kept.{both_true}
use Rattle.verdict_text.specs.Words.{view_word, code_word}
use Rattle.verdict_text.specs.Lines.{change_word, any_change_word, pin_word, value_word, row_words, step_words, mismatch_words, waived_words, finding_words, reason_words, finding_text, reason_text}
use Rattle.verdict_text.specs.WellFormed.{is_told_name, is_number, is_ordinal, is_change, is_any_change, is_any_pin, is_about_values, is_mismatch, is_waiver, is_finding, is_reason}
use Rattle.verdict_text.specs.Told.{told_number, told_change, told_waiver, told_mismatch, told_tail, told_finding, told_findings, told_reason, told_view, told_code, of_kind, of_two, of_three, of_unknown, of_number, of_limit, of_four, of_five, of_construct, of_udp_rows, of_six, of_closing, of_moving, words_of}
use Rattle.verdict_text.specs.declared.finding.Mismatch.{Mismatch}
use Rattle.verdict_text.specs.declared.finding.Finding.{Finding}
use Rattle.verdict_text.specs.declared.finding.Code.{Code}
use Rattle.verdict_text.specs.declared.reason.Reason.{Reason}
use Rattle.verdict_text.specs.declared.reason.Reason.TheVariants as reasons
use Rattle.verdict_text.proofs.Cutting.{are_words, words_back}
use Rattle.verdict_text.proofs.Spelling.{number_graphic, number_back, ordinal_graphic, ordinal_back, name_graphic, shown_graphic, pin_back, pin_graphic, view_graphic, view_back, code_graphic, code_back, kind_graphic, kind_back, value_graphic, value_back, change_graphic, change_back, any_change_graphic, any_change_back}

-- ---- refusals

pub reason_graphic : (r : Reason) → is_reason r ≡ true → are_words (reason_words r) ≡ true
reason_graphic (reasons.Construct view word line) h =
    let both = both_true (is_shown word) (is_ordinal line) h in
    rw (view_graphic view, shown_graphic word both.0, ordinal_graphic line both.1) refl
reason_graphic (reasons.UnknownName name) h = rw (name_graphic name h) refl
reason_graphic (reasons.BadFunction owner place) h =
    let both = both_true (is_told_name owner) (is_number place) h in
    rw (name_graphic owner both.0, number_graphic place both.1) refl
reason_graphic (reasons.BadStateRow row) h = rw (ordinal_graphic row h) refl
reason_graphic (reasons.UdpRow udp row) h =
    let both = both_true (is_told_name udp) (is_ordinal row) h in
    rw (name_graphic udp both.0, ordinal_graphic row both.1) refl
reason_graphic (reasons.UdpRows udp first second) h =
    let both = both_true (is_told_name udp) (is_ordinal first && is_ordinal second) h in
    let rows = both_true (is_ordinal first) (is_ordinal second) both.1 in
    rw (name_graphic udp both.0, ordinal_graphic first rows.0, ordinal_graphic second rows.1) refl
reason_graphic (reasons.Loop net) h = rw (name_graphic net h) refl
reason_graphic (reasons.TwoDrivers net) h = rw (name_graphic net h) refl
reason_graphic (reasons.UnknownUdp name) h = rw (name_graphic name h) refl
reason_graphic (reasons.PortCount label) h = rw (name_graphic label h) refl
reason_graphic (reasons.UnknownModel name) h = rw (name_graphic name h) refl
reason_graphic (reasons.SupplyShort node) h = rw (name_graphic node h) refl
reason_graphic (reasons.FloatRead net) h = rw (name_graphic net h) refl
reason_graphic (reasons.BadShape pin index) h =
    let both = both_true (is_told_name pin) (is_number index) h in
    rw (name_graphic pin both.0, number_graphic index both.1) refl
reason_graphic (reasons.Limit kind number) h = rw (kind_graphic kind, number_graphic number h) refl
reason_graphic reasons.NoTable h = refl
reason_graphic reasons.EmptyTable h = refl
reason_graphic (reasons.TableShape line) h = rw (ordinal_graphic line h) refl
reason_graphic (reasons.RowNotAtRest row place) h =
    let both = both_true (is_ordinal row) (is_told_name place) h in
    rw (ordinal_graphic row both.0, name_graphic place both.1) refl
reason_graphic (reasons.NotClosed row change) h =
    let both = both_true (is_ordinal row) (is_change change) h in
    rw (ordinal_graphic row both.0, change_graphic change both.1) refl
reason_graphic (reasons.Moving row change node) h =
    let both = both_true (is_ordinal row) (is_change change && is_told_name node) h in
    let rest = both_true (is_change change) (is_told_name node) both.1 in
    rw (ordinal_graphic row both.0, change_graphic change rest.0, name_graphic node rest.1) refl

pub reason_back : (r : Reason) → is_reason r ≡ true → told_reason (codes "refused" ∷ reason_words r) ≡ Some r
unfolding of_two of_three of_unknown of_number of_four of_five of_six
reason_back (reasons.Construct view word line) h =
    let both = both_true (is_shown word) (is_ordinal line) h in
    rw (view_back view, ordinal_back line both.1) refl
reason_back (reasons.UnknownName name) h = refl
reason_back (reasons.BadFunction owner place) h = rw (number_back place (both_true (is_told_name owner) (is_number place) h).1) refl
reason_back (reasons.BadStateRow row) h = rw (ordinal_back row h) refl
reason_back (reasons.UdpRow udp row) h = rw (ordinal_back row (both_true (is_told_name udp) (is_ordinal row) h).1) refl
reason_back (reasons.UdpRows udp first second) h =
    let both = both_true (is_told_name udp) (is_ordinal first && is_ordinal second) h in
    let rows = both_true (is_ordinal first) (is_ordinal second) both.1 in
    rw (ordinal_back first rows.0, ordinal_back second rows.1) refl
reason_back (reasons.Loop net) h = refl
reason_back (reasons.TwoDrivers net) h = refl
reason_back (reasons.UnknownUdp name) h = refl
reason_back (reasons.PortCount label) h = refl
reason_back (reasons.UnknownModel name) h = refl
reason_back (reasons.SupplyShort node) h = refl
reason_back (reasons.FloatRead net) h = refl
reason_back (reasons.BadShape pin index) h = rw (number_back index (both_true (is_told_name pin) (is_number index) h).1) refl
reason_back (reasons.Limit kind number) h = rw (kind_back kind, number_back number h) refl
reason_back reasons.NoTable h = refl
reason_back reasons.EmptyTable h = refl
reason_back (reasons.TableShape line) h = rw (ordinal_back line h) refl
reason_back (reasons.RowNotAtRest row place) h = rw (ordinal_back row (both_true (is_ordinal row) (is_told_name place) h).0) refl
reason_back (reasons.NotClosed row change) h =
    let both = both_true (is_ordinal row) (is_change change) h in
    rw (ordinal_back row both.0, change_back change both.1) refl
reason_back (reasons.Moving row change node) h =
    let both = both_true (is_ordinal row) (is_change change && is_told_name node) h in
    rw (ordinal_back row both.0, change_back change (both_true (is_change change) (is_told_name node) both.1).0) refl

-- ---- findings

waived_graphic : (w : Option ℕ) → is_waiver w ≡ true → are_words (waived_words w) ≡ true
waived_graphic None h = refl
waived_graphic (Some n) h = rw (ordinal_graphic n h) refl

mismatch_graphic : (code : Code) (m : Option Mismatch) → is_mismatch code m ≡ true → are_words (mismatch_words m) ≡ true
mismatch_graphic code None h = refl
mismatch_graphic code (Some m) h =
    let rest = (both_true (is_about_values code) (is_ordinal m.row && is_any_change m.change) h).1 in
    let both = both_true (is_ordinal m.row) (is_any_change m.change) rest in
    rw (ordinal_graphic m.row both.0, any_change_graphic m.change both.1, value_graphic m.liberty, value_graphic m.other) refl

pub finding_graphic : (f : Finding) → is_finding f ≡ true → are_words (finding_words f) ≡ true
finding_graphic f h =
    let both = both_true (is_any_pin f.pin) (is_mismatch f.code f.mismatch && is_waiver f.waiver) h in
    let rest = both_true (is_mismatch f.code f.mismatch) (is_waiver f.waiver) both.1 in
    rw (
      code_graphic f.code,
      pin_graphic f.pin both.0,
      view_graphic f.view,
      list_all-append are_graphic (mismatch_words f.mismatch) (waived_words f.waiver),
      mismatch_graphic f.code f.mismatch rest.0,
      waived_graphic f.waiver rest.1,
    ) refl

waiver_back : (w : Option ℕ) → is_waiver w ≡ true → told_waiver (waived_words w) ≡ Some w
waiver_back None h = refl
waiver_back (Some n) h = rw (ordinal_back n h) refl

tail_back : (code : Code) (m : Option Mismatch) (w : Option ℕ) → is_mismatch code m ≡ true → is_waiver w ≡ true
    → told_tail (mismatch_words m ++ waived_words w) ≡ Some (m, w)
tail_back code None None h k = refl
tail_back code None (Some n) h k = rw (ordinal_back n k) refl
tail_back code (Some m) w h k =
    let rest = (both_true (is_about_values code) (is_ordinal m.row && is_any_change m.change) h).1 in
    let both = both_true (is_ordinal m.row) (is_any_change m.change) rest in
    rw (ordinal_back m.row both.0, any_change_back m.change both.1, value_back m.liberty, value_back m.other, waiver_back w k) refl

pub finding_back : (f : Finding) → is_finding f ≡ true → told_finding (codes "finding" ∷ finding_words f) ≡ Some f
finding_back f h =
    let both = both_true (is_any_pin f.pin) (is_mismatch f.code f.mismatch && is_waiver f.waiver) h in
    let rest = both_true (is_mismatch f.code f.mismatch) (is_waiver f.waiver) both.1 in
    rw (code_back f.code, view_back f.view, pin_back f.pin both.0, tail_back f.code f.mismatch f.waiver rest.0 rest.1) refl

pub findings_back : (fs : List Finding) → list_all is_finding fs ≡ true → told_findings (map finding_text fs) ≡ Some fs
findings_back [] h = refl
findings_back (f ∷ fs) h =
    let both = both_true (is_finding f) (list_all is_finding fs) h in
    rw (words_back (codes "finding") (finding_words f) refl (finding_graphic f both.0), finding_back f both.0, findings_back fs both.1) refl
