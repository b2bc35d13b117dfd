-- Which results a block can hold.
use Rattle.std.specs.Prelude.{◌≡◌, ◌≤◌, ℕ, Bool, true, false, not, ◌&&◌, nat_le, nat_lt, List, length, Option, Some, None, is_some, is_none}
use Rattle.std.specs.List.{list_all}
use Rattle.file_rules.specs.Names.{is_name, is_shown}
use Rattle.verdict_text.specs.Lines.{block}
use Rattle.verdict_text.specs.declared.finding.Code.{Code}
use Rattle.verdict_text.specs.declared.finding.Code.TheVariants.{M1, M2, Z1, Z2}
use Rattle.verdict_text.specs.declared.finding.Change.{Change}
use Rattle.verdict_text.specs.declared.finding.Mismatch.{Mismatch}
use Rattle.verdict_text.specs.declared.finding.Finding.{Finding}
use Rattle.verdict_text.specs.declared.reason.Reason.{Reason}
use Rattle.verdict_text.specs.declared.reason.Reason.TheVariants as reasons
use Rattle.verdict_text.specs.declared.verdict.Verdict.{Verdict}
use Rattle.verdict_text.specs.declared.verdict.Verdict.TheVariants.{Checked, Unchecked, Refused}
use Rattle.verdict_text.specs.declared.verdict.CellResult.{CellResult}

-- a name of 1 to 128 bytes
abbrev pub is_told_name : List ℕ → Bool
is_told_name bytes = is_name bytes && nat_le (length bytes) 128

-- a number of 32 bits
abbrev pub is_number : ℕ → Bool
is_number n = nat_lt n 4294967296

-- one that counts from 1, as rows, lines and waivers do
abbrev pub is_ordinal : ℕ → Bool
is_ordinal n = nat_le 1 n && is_number n

abbrev pub is_change : Change → Bool
is_change c = is_told_name c.pin

abbrev pub is_any_change : Option Change → Bool
is_any_change None = true
is_any_change (Some c) = is_change c

abbrev pub is_any_pin : Option (List ℕ) → Bool
is_any_pin None = true
is_any_pin (Some name) = is_told_name name

-- the codes of findings about values
abbrev pub is_about_values : Code → Bool
is_about_values M1 = true
is_about_values M2 = true
is_about_values Z1 = true
is_about_values Z2 = true
is_about_values _ = false

-- values that differ stand exactly beside a code about values
abbrev pub is_mismatch : Code → Option Mismatch → Bool
is_mismatch code None = not (is_about_values code)
is_mismatch code (Some m) = is_about_values code && (is_ordinal m.row && is_any_change m.change)

abbrev pub is_waiver : Option ℕ → Bool
is_waiver None = true
is_waiver (Some number) = is_ordinal number

abbrev pub is_finding : Finding → Bool
is_finding f = is_any_pin f.pin && (is_mismatch f.code f.mismatch && is_waiver f.waiver)

-- at most 2,500
abbrev pub are_findings : List Finding → Bool
are_findings findings = nat_le (length findings) 2500 && list_all is_finding findings

abbrev pub is_reason : Reason → Bool
is_reason (reasons.Construct view word line) = is_shown word && is_ordinal line
is_reason (reasons.UnknownName name) = is_told_name name
is_reason (reasons.BadFunction owner place) = is_told_name owner && is_number place
is_reason (reasons.BadStateRow row) = is_ordinal row
is_reason (reasons.UdpRow udp row) = is_told_name udp && is_ordinal row
is_reason (reasons.UdpRows udp first second) = is_told_name udp && (is_ordinal first && is_ordinal second)
is_reason (reasons.Loop net) = is_told_name net
is_reason (reasons.TwoDrivers net) = is_told_name net
is_reason (reasons.UnknownUdp name) = is_told_name name
is_reason (reasons.PortCount label) = is_told_name label
is_reason (reasons.UnknownModel name) = is_told_name name
is_reason (reasons.SupplyShort node) = is_told_name node
is_reason (reasons.FloatRead net) = is_told_name net
is_reason (reasons.BadShape pin index) = is_told_name pin && is_number index
is_reason (reasons.Limit kind number) = is_number number
is_reason reasons.NoTable = true
is_reason reasons.EmptyTable = true
is_reason (reasons.TableShape line) = is_ordinal line
is_reason (reasons.RowNotAtRest row place) = is_ordinal row && is_told_name place
is_reason (reasons.NotClosed row change) = is_ordinal row && is_change change
is_reason (reasons.Moving row change node) = is_ordinal row && (is_change change && is_told_name node)

-- unchecked only for a finding
abbrev pub is_verdict : Verdict → Bool
is_verdict (Checked rows defined findings) = is_number rows && (is_number defined && are_findings findings)
is_verdict (Unchecked findings) = nat_lt 0 (length findings) && are_findings findings
is_verdict (Refused reason) = is_reason reason

-- Names are names, numbers are of 32 bits and count from 1 where they count rows, lines or waivers, values stand exactly
-- beside codes about values, a cell is unchecked only for a finding, there are at most 2,500 findings, and the block has
-- at most 1,048,576 bytes.
pub record IsWellFormed (r : CellResult) : Type 0 where
  pub name : is_told_name r.name ≡ true
  pub verdict : is_verdict r.verdict ≡ true
  pub short : length (block r) ≤ 1048576
