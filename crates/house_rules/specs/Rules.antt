-- What the rules of a house find of a cell's pins.
use Rattle.std.specs.Prelude.{ℕ, Bool, true, false, not, ◌==◌, ◌&&◌, nat_le, nat_lt, if◌then◌else◌, List, [], ◌∷◌, ◌++◌, length, count_by, Option, Some, None}
use Rattle.std.specs.List.{flat_map, list_all, list_any, range_with_len, slice_get, starts_with}
use Rattle.std.specs.Char.{is_ascii_digit}
use Rattle.std.specs.Option.{option_map}
use Rattle.std.specs.Str.{bytes_eq}
use Rattle.std.specs.Str.Parse.{digits_value}
use Rattle.file_rules.specs.Names.{are_graphic}
use Rattle.text_scan.specs.declared.pins.PinKind.{PinKind}
use Rattle.text_scan.specs.declared.pins.PinKind.TheVariants.{Signal}
use Rattle.verdict_text.specs.declared.finding.Code.{Code}
use Rattle.verdict_text.specs.declared.finding.Code.TheVariants.{H1, H2, H3}
use Rattle.verdict_text.specs.declared.finding.Finding.{Finding}
use Rattle.verdict_text.specs.declared.finding.View.TheVariants.{Liberty}
use Rattle.pin_tables.specs.declared.table.Pin.{Pin}
use Rattle.pin_tables.specs.declared.table.PinTable.{PinTable}
use Rattle.pin_tables.specs.Findings.{finding, only}
use Rattle.pin_tables.specs.Tables.{name_of}

-- a rule: its code says what it wants, its setting how much of it
pub record Rule : Type 0 where
  pub code : Code
  pub setting : List ℕ

abbrev pub rule : Code → List ℕ → Rule
rule code setting = record { code = code; setting = setting }

-- ---- settings

-- at most 128 bytes that can be seen, and not a lone -
abbrev pub is_text_setting : List ℕ → Bool
is_text_setting setting = nat_le (length setting) 128 && (are_graphic setting && not (bytes_eq setting (45 ∷ [])))

-- decimal digits, the first of which is 0 only where it stands alone
abbrev pub is_decimal : List ℕ → Bool
is_decimal [] = false
is_decimal (digit ∷ []) = is_ascii_digit digit
is_decimal (digit ∷ next ∷ digits) = not (digit == 48) && list_all is_ascii_digit (digit ∷ next ∷ digits)

-- a decimal number of at most 64
abbrev pub is_count_setting : List ℕ → Bool
is_count_setting setting = is_decimal setting && nat_le (digits_value 10 setting) 64

-- a rule of the code may have the setting; no other codes are those of rules
abbrev pub is_setting : Code → List ℕ → Bool
is_setting H1 setting = is_text_setting setting
is_setting H2 setting = is_count_setting setting
is_setting H3 setting = is_text_setting setting
is_setting _ setting = false

-- ---- questions and answers

abbrev pub is_signal_kind : PinKind → Bool
is_signal_kind Signal = true
is_signal_kind _ = false

abbrev pub is_signal : Pin → Bool
is_signal p = is_signal_kind p.kind

-- the letters don't have the byte
abbrev pub lacks : List ℕ → ℕ → Bool
lacks letters byte = not (list_any (λ letter. letter == byte) letters)

abbrev pub is_misspelled : List ℕ → List ℕ → Bool
is_misspelled letters name = list_any (lacks letters) name

-- of the pin, if there is one
abbrev pub has_other_byte : List ℕ → Option Pin → Bool
has_other_byte letters None = false
has_other_byte letters (Some p) = is_misspelled letters p.name

-- Whether a rule finds something, asked of the whole cell or of the pin at a place. H1, of the cell: its name doesn't begin
-- with the setting. H2, of the cell: it has more signal pins than the setting's number. H3, of a pin: its name has a byte
-- that the setting lacks. Nothing else is found.
abbrev pub finds : Code → List ℕ → PinTable → Option ℕ → Bool
finds H1 setting table None = not (starts_with (λ a b. a == b) table.cell setting)
finds H2 setting table None = nat_lt (digits_value 10 setting) (count_by is_signal table.pins)
finds H3 setting table (Some place) = has_other_byte setting (slice_get table.pins place)
finds _ _ _ _ = false

-- ---- findings

-- the name of the pin at a place; none where the whole cell is asked of
abbrev pub pin_at : PinTable → Option ℕ → Option (List ℕ)
pin_at table None = None
pin_at table (Some place) = option_map name_of (slice_get table.pins place)

-- what one question finds
abbrev pub found_at : PinTable → Rule → Option ℕ → List Finding
found_at table r place = if finds r.code r.setting table place then only (finding r.code (pin_at table place) Liberty) else []

-- of each pin in the table's order
abbrev pub found_of_pins : PinTable → Rule → List Finding
found_of_pins table r = flat_map (λ place. found_at table r (Some place)) (range_with_len 0 (length table.pins))

-- of the cell, and then of each of its pins
abbrev pub found_by : PinTable → Rule → List Finding
found_by table r = found_at table r None ++ found_of_pins table r

-- by the rules in their order
abbrev pub house_findings : List Rule → PinTable → List Finding
house_findings rules table = flat_map (found_by table) rules
