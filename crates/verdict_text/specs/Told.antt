-- What the words of a block's lines tell. These definitions serve the private functions that read a block; what a block
-- says is defined in Lines alone.
use Rattle.std.specs.Prelude.{◌≡◌, ℕ, Bool, true, ◌&&◌, nat_lt, ◌==◌, if◌then◌else◌, ◌-◌, take, ◌≢◌, List, [], ◌∷◌, length, find, Option, Some, None, codes, Result, Ok, Err}
use Rattle.std.specs.List.{slice_split, list_all}
use Rattle.std.specs.Option.{option_map, option_and_then}
use Rattle.std.specs.Str.{bytes_eq}
use Rattle.std.specs.Char.{is_ascii_digit}
use Rattle.std.specs.Str.Parse.{digits_value}
use Rattle.tern_core.specs.declared.tern.Tern.{Tern}
use Rattle.tern_core.specs.declared.tern.Tern.TheVariants as terns
use Rattle.text_scan.specs.Limits.{word_of}
use Rattle.text_scan.specs.declared.limits.LimitKind.{LimitKind}
use Rattle.text_scan.specs.declared.limits.LimitKind.TheVariants as kinds
use Rattle.verdict_text.specs.Words.{view_word, code_word}
use Rattle.verdict_text.specs.Lines.{block}
use Rattle.verdict_text.specs.WellFormed.{IsWellFormed}
use Rattle.verdict_text.specs.declared.finding.View.{View}
use Rattle.verdict_text.specs.declared.finding.View.TheVariants as views
use Rattle.verdict_text.specs.declared.finding.Code.{Code}
use Rattle.verdict_text.specs.declared.finding.Code.TheVariants as finding_codes
use Rattle.verdict_text.specs.declared.finding.Change.{Change}
use Rattle.verdict_text.specs.declared.finding.Mismatch.{Mismatch}
use Rattle.verdict_text.specs.declared.finding.Finding.{Finding}
use Rattle.verdict_text.specs.declared.reason.Reason.{Reason}
use Rattle.verdict_text.specs.declared.reason.Reason.TheVariants as reasons
use Rattle.verdict_text.specs.declared.told.Unread.{Unread}
use Rattle.verdict_text.specs.declared.told.Unread.TheVariants as unread
use Rattle.verdict_text.specs.declared.verdict.Verdict.{Verdict}
use Rattle.verdict_text.specs.declared.verdict.Verdict.TheVariants.{Checked, Unchecked, Refused}
use Rattle.verdict_text.specs.declared.verdict.CellResult.{CellResult}

-- what is told, where memory isn't wanting
abbrev pub Tells : {T : Type 0} → Option T → Result T Unread → Type 0
Tells told (Ok value) = told ≡ Some value
Tells told (Err unread.Unlike) = told ≡ None
Tells told (Err unread.NoMemory) = Unit {0}

-- the lines of a text, and one of no bytes behind the last end
abbrev pub lines_of : List ℕ → List (List ℕ)
lines_of text = slice_split (λ b. b == 10) text

-- the words of a line, a blank between two
abbrev pub words_of : List ℕ → List (List ℕ)
words_of line = slice_split (λ b. b == 32) line

-- what stands before and behind =
abbrev pub sides_of : List ℕ → List (List ℕ)
sides_of word = slice_split (λ b. b == 61) word

-- ---- words

abbrev pub all_codes : List Code
all_codes =
    finding_codes.P1 ∷ finding_codes.P2 ∷ finding_codes.P3 ∷ finding_codes.P4
    ∷ finding_codes.H1 ∷ finding_codes.H2 ∷ finding_codes.H3 ∷ finding_codes.H4 ∷ finding_codes.H5
    ∷ finding_codes.M1 ∷ finding_codes.M2 ∷ finding_codes.Z1 ∷ finding_codes.Z2 ∷ []

abbrev pub is_code_word : List ℕ → Code → Bool
is_code_word word code = bytes_eq word (code_word code)

abbrev pub told_code : List ℕ → Option Code
told_code word = find (is_code_word word) all_codes

abbrev pub all_views : List View
all_views = views.Liberty ∷ views.Verilog ∷ views.Cdl ∷ views.Lef ∷ []

abbrev pub is_view_word : List ℕ → View → Bool
is_view_word word view = bytes_eq word (view_word view)

abbrev pub told_view : List ℕ → Option View
told_view word = find (is_view_word word) all_views

abbrev pub all_kinds : List LimitKind
all_kinds =
    kinds.Inputs ∷ kinds.Gates ∷ kinds.Transistors ∷ kinds.Nodes ∷ kinds.Rows ∷ kinds.Pins ∷ kinds.UdpInputs
    ∷ kinds.Cells ∷ kinds.Name ∷ kinds.Nesting ∷ kinds.Records ∷ kinds.Rects ∷ []

abbrev pub is_kind_word : List ℕ → LimitKind → Bool
is_kind_word word kind = bytes_eq word (word_of kind)

abbrev pub told_kind : List ℕ → Option LimitKind
told_kind word = find (is_kind_word word) all_kinds

unfoldable pub told_number : List ℕ → Option ℕ
told_number word =
    if list_all is_ascii_digit word && (nat_lt 0 (length word) && nat_lt (digits_value 10 word) 4294967296)
    then Some (digits_value 10 word) else None

unfoldable pub told_value : List ℕ → Option Tern
told_value word =
    if bytes_eq word (codes "0") then Some terns.Zero
    else if bytes_eq word (codes "1") then Some terns.One
    else if bytes_eq word (codes "X") then Some terns.Unknown
    else None

abbrev pub change_of : List ℕ → Tern → Change
change_of pin value = record { pin = pin; value = value }

abbrev pub told_change_of : List (List ℕ) → Option Change
told_change_of (pin ∷ value ∷ []) = option_map (change_of pin) (told_value value)
told_change_of _ = None

-- PIN=V
abbrev pub told_change : List ℕ → Option Change
told_change word = told_change_of (sides_of word)

unfoldable pub told_any_change : List ℕ → Option (Option Change)
told_any_change word = if bytes_eq word (codes "-") then Some None else option_map Some (told_change word)

unfoldable pub told_pin : List ℕ → Option (List ℕ)
told_pin word = if bytes_eq word (codes "-") then None else Some word

-- ---- findings

abbrev pub mismatch_of : ℕ → Option Change → Tern → Tern → Mismatch
mismatch_of row change liberty other = record { row = row; change = change; liberty = liberty; other = other }

-- by the words for row, change and both values
abbrev pub told_mismatch : List ℕ → List ℕ → List ℕ → List ℕ → Option Mismatch
told_mismatch row change liberty other =
    option_and_then (λ r. option_and_then (λ c. option_and_then (λ l. option_map (λ o. mismatch_of r c l o)
    (told_value other)) (told_value liberty)) (told_any_change change)) (told_number row)

abbrev pub told_waiver : List (List ℕ) → Option (Option ℕ)
told_waiver [] = Some None
told_waiver (_ ∷ number ∷ []) = option_map Some (told_number number)
told_waiver _ = None

-- what stands behind the view: values that differ, and a waiver
abbrev pub told_tail : List (List ℕ) → Option (Option Mismatch × Option ℕ)
told_tail (_ ∷ row ∷ _ ∷ change ∷ _ ∷ liberty ∷ _ ∷ other ∷ rest) =
    option_and_then (λ m. option_map (λ w. (Some m, w)) (told_waiver rest)) (told_mismatch row change liberty other)
told_tail words = option_map (λ w. (None, w)) (told_waiver words)

abbrev pub finding_of : Code → Option (List ℕ) → View → Option Mismatch × Option ℕ → Finding
finding_of code pin view tail = record { code = code; pin = pin; view = view; mismatch = tail.0; waiver = tail.1 }

-- by the words of its line
abbrev pub told_finding : List (List ℕ) → Option Finding
told_finding (_ ∷ code ∷ pin ∷ view ∷ tail) =
    option_and_then (λ c. option_and_then (λ v. option_map (finding_of c (told_pin pin) v) (told_tail tail)) (told_view view)) (told_code code)
told_finding _ = None

-- all or none
abbrev pub told_findings : List (List ℕ) → Option (List Finding)
told_findings [] = Some []
told_findings (text ∷ texts) =
    option_and_then (λ f. option_map (λ fs. f ∷ fs) (told_findings texts)) (told_finding (words_of text))

-- ---- refusals, by the words behind the first

unfoldable pub of_two : List ℕ → List ℕ → Option Reason
of_two kind name =
    if bytes_eq kind (codes "loop") then Some (reasons.Loop name)
    else if bytes_eq kind (codes "short") then Some (reasons.SupplyShort name)
    else if bytes_eq kind (codes "no") then Some reasons.NoTable
    else if bytes_eq kind (codes "empty") then Some reasons.EmptyTable
    else None

unfoldable pub of_unknown : List ℕ → List ℕ → Option Reason
of_unknown what name =
    if bytes_eq what (codes "name") then Some (reasons.UnknownName name)
    else if bytes_eq what (codes "udp") then Some (reasons.UnknownUdp name)
    else if bytes_eq what (codes "model") then Some (reasons.UnknownModel name)
    else None

abbrev pub of_limit : List ℕ → List ℕ → Option Reason
of_limit kind number = option_and_then (λ k. option_map (λ n. reasons.Limit k n) (told_number number)) (told_kind kind)

-- where the last word is a number
unfoldable pub of_number : List ℕ → List ℕ → List ℕ → Option Reason
of_number kind middle number =
    if bytes_eq kind (codes "state") then option_map reasons.BadStateRow (told_number number)
    else if bytes_eq kind (codes "table") then option_map reasons.TableShape (told_number number)
    else if bytes_eq kind (codes "shape") then option_map (λ n. reasons.BadShape middle n) (told_number number)
    else if bytes_eq kind (codes "limit") then of_limit middle number
    else None

unfoldable pub of_three : List ℕ → List ℕ → List ℕ → Option Reason
of_three kind middle last =
    if bytes_eq kind (codes "unknown") then of_unknown middle last
    else if bytes_eq kind (codes "two") then Some (reasons.TwoDrivers last)
    else if bytes_eq kind (codes "port") then Some (reasons.PortCount last)
    else if bytes_eq kind (codes "float") then Some (reasons.FloatRead last)
    else of_number kind middle last

unfoldable pub of_four : List ℕ → List ℕ → List ℕ → Option Reason
of_four kind name number =
    if bytes_eq kind (codes "function") then option_map (λ n. reasons.BadFunction name n) (told_number number)
    else if bytes_eq kind (codes "udp") then option_map (λ n. reasons.UdpRow name n) (told_number number)
    else None

abbrev pub of_construct : List ℕ → List ℕ → List ℕ → Option Reason
of_construct view line word = option_and_then (λ v. option_map (λ n. reasons.Construct v word n) (told_number line)) (told_view view)

abbrev pub of_udp_rows : List ℕ → List ℕ → List ℕ → Option Reason
of_udp_rows udp first second = option_and_then (λ n. option_map (λ m. reasons.UdpRows udp n m) (told_number second)) (told_number first)

unfoldable pub of_five : List ℕ → List ℕ → List ℕ → List ℕ → Option Reason
of_five kind first third fourth =
    if bytes_eq kind (codes "construct") then of_construct first third fourth
    else if bytes_eq kind (codes "udp") then of_udp_rows first third fourth
    else None

abbrev pub of_closing : List ℕ → List ℕ → Option Reason
of_closing row change = option_and_then (λ n. option_map (λ c. reasons.NotClosed n c) (told_change change)) (told_number row)

unfoldable pub of_six : List ℕ → List ℕ → List ℕ → List ℕ → Option Reason
of_six what third fourth fifth =
    if bytes_eq what (codes "at") then option_map (λ n. reasons.RowNotAtRest n fifth) (told_number fourth)
    else if bytes_eq what (codes "closed") then of_closing third fifth
    else None

abbrev pub of_moving : List ℕ → List ℕ → List ℕ → Option Reason
of_moving row change node = option_and_then (λ n. option_map (λ c. reasons.Moving n c node) (told_change change)) (told_number row)

-- by the first word behind refused and the others
abbrev pub of_kind : List ℕ → List (List ℕ) → Option Reason
of_kind kind (name ∷ []) = of_two kind name
of_kind kind (middle ∷ last ∷ []) = of_three kind middle last
of_kind kind (name ∷ _ ∷ number ∷ []) = of_four kind name number
of_kind kind (first ∷ _ ∷ third ∷ fourth ∷ []) = of_five kind first third fourth
of_kind kind (what ∷ _ ∷ third ∷ fourth ∷ fifth ∷ []) = of_six what third fourth fifth
of_kind kind (_ ∷ row ∷ _ ∷ change ∷ _ ∷ node ∷ []) = of_moving row change node
of_kind kind _ = None

-- by the words of its line
abbrev pub told_reason : List (List ℕ) → Option Reason
told_reason (_ ∷ kind ∷ rest) = of_kind kind rest
told_reason _ = None

-- ---- results

-- what stands behind the first word of a line of two
abbrev pub second_of : List (List ℕ) → Option (List ℕ)
second_of (_ ∷ word ∷ []) = Some word
second_of _ = None

abbrev pub second_word : List ℕ → Option (List ℕ)
second_word text = second_of (words_of text)

abbrev pub told_count : List ℕ → Option ℕ
told_count text = option_and_then told_number (second_word text)

abbrev pub told_checked : List (List ℕ) → Option Verdict
told_checked (rows ∷ defined ∷ findings) =
    option_and_then (λ r. option_and_then (λ d. option_map (λ fs. Checked r d fs) (told_findings findings)) (told_count defined)) (told_count rows)
told_checked _ = None

-- by the text of the line behind the cell's name, and the others before the verdict
unfoldable pub told_verdict : List ℕ → List (List ℕ) → Option Verdict
told_verdict first others =
    if bytes_eq first (codes "check full") then told_checked others
    else if bytes_eq first (codes "check none") then option_map Unchecked (told_findings others)
    else option_map Refused (told_reason (words_of first))

abbrev pub result_of : List ℕ → Verdict → CellResult
result_of name verdict = record { name = name; verdict = verdict }

-- by the texts of the lines before the verdict's
abbrev pub told_lines : List (List ℕ) → Option CellResult
told_lines (cell ∷ first ∷ others) =
    option_and_then (λ name. option_map (result_of name) (told_verdict first others)) (second_word cell)
told_lines _ = None

-- the verdict's line is told by those before it; behind its end stands a line of no bytes
abbrev pub told_result : List (List ℕ) → Option CellResult
told_result lines = told_lines (take (length lines - 2) lines)

-- what was told, where it is well formed and is written as the text
abbrev pub IsChecked : CellResult → List ℕ → Option CellResult → Type 0
IsChecked cell text (Some r) = (r ≡ cell) × IsWellFormed r × (block r ≡ text)
IsChecked cell text None = IsWellFormed cell → block cell ≢ text
