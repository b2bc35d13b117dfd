-- The texts of files that a comparison shows: names, and the words of refused constructs.
use Rattle.std.specs.Prelude.{◌≡◌, ℕ, Bool, true, List, [], ◌∷◌, ◌++◌, Option, Some, None}
use Rattle.std.specs.List.{flat_map, list_all}
use Rattle.file_rules.specs.Names.{are_graphic}
use Rattle.verdict_text.specs.declared.finding.Change.{Change}
use Rattle.verdict_text.specs.declared.finding.Mismatch.{Mismatch}
use Rattle.verdict_text.specs.declared.finding.Finding.{Finding}
use Rattle.verdict_text.specs.declared.reason.Reason.{Reason}
use Rattle.verdict_text.specs.declared.reason.Reason.TheVariants.{Construct, UnknownName, BadFunction, BadStateRow, UdpRow, UdpRows, Loop, TwoDrivers, UnknownUdp, PortCount, UnknownModel, SupplyShort, FloatRead, BadShape, Limit, NoTable, EmptyTable, TableShape, RowNotAtRest, NotClosed, Moving}
use Rattle.cell_compare.specs.declared.comparison.Comparison.{Comparison}
use Rattle.cell_compare.specs.declared.comparison.Comparison.TheVariants.{Refused, Pins, Vectors}

abbrev pub change_texts : Option Change → List (List ℕ)
change_texts None = []
change_texts (Some c) = c.pin ∷ []

abbrev pub mismatch_texts : Option Mismatch → List (List ℕ)
mismatch_texts None = []
mismatch_texts (Some m) = change_texts m.change

abbrev pub pin_texts : Option (List ℕ) → List (List ℕ)
pin_texts None = []
pin_texts (Some pin) = pin ∷ []

abbrev pub finding_texts : Finding → List (List ℕ)
finding_texts f = pin_texts f.pin ++ mismatch_texts f.mismatch

abbrev pub reason_texts : Reason → List (List ℕ)
reason_texts (Construct view word line) = word ∷ []
reason_texts (UnknownName name) = name ∷ []
reason_texts (BadFunction owner place) = owner ∷ []
reason_texts (BadStateRow row) = []
reason_texts (UdpRow udp row) = udp ∷ []
reason_texts (UdpRows udp first second) = udp ∷ []
reason_texts (Loop net) = net ∷ []
reason_texts (TwoDrivers net) = net ∷ []
reason_texts (UnknownUdp name) = name ∷ []
reason_texts (PortCount label) = label ∷ []
reason_texts (UnknownModel name) = name ∷ []
reason_texts (SupplyShort node) = node ∷ []
reason_texts (FloatRead net) = net ∷ []
reason_texts (BadShape pin index) = pin ∷ []
reason_texts (Limit kind number) = []
reason_texts NoTable = []
reason_texts EmptyTable = []
reason_texts (TableShape line) = []
reason_texts (RowNotAtRest row place) = place ∷ []
reason_texts (NotClosed row change) = change.pin ∷ []
reason_texts (Moving row change node) = change.pin ∷ node ∷ []

abbrev pub told_texts : Comparison → List (List ℕ)
told_texts (Refused r) = reason_texts r
told_texts (Pins found) = flat_map finding_texts found
told_texts (Vectors vectors defined None) = []
told_texts (Vectors vectors defined (Some f)) = finding_texts f

-- each byte of the texts is from 33 to 126, so that no blank and no line end stands in them
abbrev pub AreGraphic : List (List ℕ) → Type 0
AreGraphic texts = list_all are_graphic texts ≡ true
