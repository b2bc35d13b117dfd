-- The lines of findings, refusals and blocks.
use Rattle.std.specs.Prelude.{ℕ, Bool, List, [], ◌∷◌, ◌++◌, map, Option, Some, None, codes, decimal, is_some, length, ◌==◌, if◌then◌else◌}
use Rattle.std.specs.List.{flat_map, list_all}
use Rattle.tern_core.specs.Values.{symbol_of}
use Rattle.tern_core.specs.declared.tern.Tern.{Tern}
use Rattle.text_scan.specs.Limits.{word_of}
use Rattle.verdict_text.specs.Words.{view_word, code_word, verdict_word}
use Rattle.verdict_text.specs.declared.finding.Change.{Change}
use Rattle.verdict_text.specs.declared.finding.Mismatch.{Mismatch}
use Rattle.verdict_text.specs.declared.finding.Finding.{Finding}
use Rattle.verdict_text.specs.declared.reason.Reason.{Reason}
use Rattle.verdict_text.specs.declared.reason.Reason.TheVariants as reasons
use Rattle.verdict_text.specs.declared.verdict.Verdict.{Verdict}
use Rattle.verdict_text.specs.declared.verdict.Verdict.TheVariants.{Checked, Unchecked, Refused}
use Rattle.verdict_text.specs.declared.verdict.VerdictWord.{VerdictWord}
use Rattle.verdict_text.specs.declared.verdict.VerdictWord.TheVariants as words
use Rattle.verdict_text.specs.declared.verdict.CellResult.{CellResult}

-- ---- words and lines

abbrev pub after_blank : List ℕ → List ℕ
after_blank word = 32 ∷ word

-- words, a blank before each
abbrev pub spaced : List (List ℕ) → List ℕ
spaced words = flat_map after_blank words

-- a word and the others, a blank between two
abbrev pub joined : List ℕ → List (List ℕ) → List ℕ
joined first others = first ++ spaced others

-- a text, ended by LF
abbrev pub line : List ℕ → List ℕ
line text = text ++ 10 ∷ []

-- ---- findings

-- a pin that gets a value, as A=1
abbrev pub change_word : Change → List ℕ
change_word c = c.pin ++ 61 ∷ symbol_of c.value ∷ []

-- the pin's name, or - for the cell
abbrev pub pin_word : Option (List ℕ) → List ℕ
pin_word None = codes "-"
pin_word (Some name) = name

-- the change, or - where there is none
abbrev pub any_change_word : Option Change → List ℕ
any_change_word None = codes "-"
any_change_word (Some c) = change_word c

abbrev pub value_word : Tern → List ℕ
value_word value = symbol_of value ∷ []

-- before a change
abbrev pub row_words : ℕ → List (List ℕ)
row_words row = codes "row" ∷ decimal row ∷ codes "change" ∷ []

abbrev pub values_words : Tern → Tern → List (List ℕ)
values_words liberty other = codes "liberty" ∷ value_word liberty ∷ codes "view" ∷ value_word other ∷ []

abbrev pub mismatch_words : Option Mismatch → List (List ℕ)
mismatch_words None = []
mismatch_words (Some m) =
    row_words m.row ++ any_change_word m.change ∷ values_words m.liberty m.other

-- where a waiver covers the finding
abbrev pub waived_words : Option ℕ → List (List ℕ)
waived_words None = []
waived_words (Some number) = codes "waived" ∷ decimal number ∷ []

-- what a finding's line says after its first word
abbrev pub finding_words : Finding → List (List ℕ)
finding_words f = code_word f.code ∷ pin_word f.pin ∷ view_word f.view ∷ mismatch_words f.mismatch ++ waived_words f.waiver

abbrev pub finding_text : Finding → List ℕ
finding_text f = joined (codes "finding") (finding_words f)

abbrev pub finding_line : Finding → List ℕ
finding_line f = line (finding_text f)

-- ---- refusals

-- a row and the change of a pin that comes after it
abbrev pub step_words : ℕ → Change → List (List ℕ)
step_words row c = row_words row ++ change_word c ∷ []

-- what a refusal's line says after its first word
abbrev pub reason_words : Reason → List (List ℕ)
reason_words (reasons.Construct view word line) = codes "construct" ∷ view_word view ∷ codes "line" ∷ decimal line ∷ word ∷ []
reason_words (reasons.UnknownName name) = codes "unknown" ∷ codes "name" ∷ name ∷ []
reason_words (reasons.BadFunction owner place) = codes "function" ∷ owner ∷ codes "place" ∷ decimal place ∷ []
reason_words (reasons.BadStateRow row) = codes "state" ∷ codes "row" ∷ decimal row ∷ []
reason_words (reasons.UdpRow udp row) = codes "udp" ∷ udp ∷ codes "row" ∷ decimal row ∷ []
reason_words (reasons.UdpRows udp first second) = codes "udp" ∷ udp ∷ codes "rows" ∷ decimal first ∷ decimal second ∷ []
reason_words (reasons.Loop net) = codes "loop" ∷ net ∷ []
reason_words (reasons.TwoDrivers net) = codes "two" ∷ codes "drivers" ∷ net ∷ []
reason_words (reasons.UnknownUdp name) = codes "unknown" ∷ codes "udp" ∷ name ∷ []
reason_words (reasons.PortCount label) = codes "port" ∷ codes "count" ∷ label ∷ []
reason_words (reasons.UnknownModel name) = codes "unknown" ∷ codes "model" ∷ name ∷ []
reason_words (reasons.SupplyShort node) = codes "short" ∷ node ∷ []
reason_words (reasons.FloatRead net) = codes "float" ∷ codes "read" ∷ net ∷ []
reason_words (reasons.BadShape pin index) = codes "shape" ∷ pin ∷ decimal index ∷ []
reason_words (reasons.Limit kind number) = codes "limit" ∷ word_of kind ∷ decimal number ∷ []
reason_words reasons.NoTable = codes "no" ∷ codes "table" ∷ []
reason_words reasons.EmptyTable = codes "empty" ∷ codes "table" ∷ []
reason_words (reasons.TableShape line) = codes "table" ∷ codes "line" ∷ decimal line ∷ []
reason_words (reasons.RowNotAtRest row place) = codes "not" ∷ codes "at" ∷ codes "rest" ∷ codes "row" ∷ decimal row ∷ place ∷ []
reason_words (reasons.NotClosed row change) = codes "not" ∷ codes "closed" ∷ step_words row change
reason_words (reasons.Moving row change node) = codes "moving" ∷ step_words row change ++ codes "node" ∷ node ∷ []

abbrev pub reason_text : Reason → List ℕ
reason_text r = joined (codes "refused") (reason_words r)

abbrev pub reason_line : Reason → List ℕ
reason_line r = line (reason_text r)

-- ---- blocks

abbrev pub count_text : List ℕ → ℕ → List ℕ
count_text what count = joined what (decimal count ∷ [])

abbrev pub count_line : List ℕ → ℕ → List ℕ
count_line what count = line (count_text what count)

abbrev pub is_waived : Finding → Bool
is_waived f = is_some f.waiver

abbrev pub word_of_findings : List Finding → VerdictWord
word_of_findings findings =
    if list_all is_waived findings then (if length findings == 0 then words.Qualified else words.Waived) else words.Failed

-- refused; qualified where there is no finding; waived where a waiver covers each; else failed
abbrev pub word_of_verdict : Verdict → VerdictWord
word_of_verdict (Checked rows defined findings) = word_of_findings findings
word_of_verdict (Unchecked findings) = word_of_findings findings
word_of_verdict (Refused reason) = words.Refused

-- the texts of the lines between the cell's name and the verdict
abbrev pub verdict_texts : Verdict → List (List ℕ)
verdict_texts (Checked rows defined findings) =
    codes "check full" ∷ count_text (codes "rows") rows ∷ count_text (codes "defined") defined ∷ map finding_text findings
verdict_texts (Unchecked findings) = codes "check none" ∷ map finding_text findings
verdict_texts (Refused reason) = reason_text reason ∷ []

-- the texts of a block's lines: the cell's name, what was found of it, and the word of its verdict
abbrev pub block_texts : CellResult → List (List ℕ)
block_texts r =
    joined (codes "cell") (r.name ∷ [])
    ∷ verdict_texts r.verdict ++ joined (codes "verdict") (verdict_word (word_of_verdict r.verdict) ∷ []) ∷ []

abbrev pub block : CellResult → List ℕ
block r = flat_map line (block_texts r)
