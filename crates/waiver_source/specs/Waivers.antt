-- What waivers hold that were read of a text.
use Rattle.std.specs.Prelude.{◌≡◌, ◌≤◌, ℕ, Bool, true, ◌&&◌, ◌||◌, nat_le, List, [], ◌∷◌, length}
use Rattle.std.specs.List.{list_all}
use Rattle.std.specs.Str.{bytes_eq}
use Rattle.text_scan.specs.declared.limits.Limits.{Limits}
use Rattle.file_rules.specs.Names.{is_name_within}
use Rattle.waiver_source.specs.declared.waiver.Waiver.{Waiver}

-- a lone *, which stands for all
abbrev pub is_star : List ℕ → Bool
is_star word = bytes_eq word (42 ∷ [])

-- a lone -, which stands for none
abbrev pub is_dash : List ℕ → Bool
is_dash word = bytes_eq word (45 ∷ [])

abbrev pub is_reason_byte : ℕ → Bool
is_reason_byte byte = nat_le 32 byte && nat_le byte 126

-- at most 1,000 bytes from 32 to 126
abbrev pub is_reason : List ℕ → Bool
is_reason text = nat_le (length text) 1000 && list_all is_reason_byte text

-- a name that the limit allows, or *
abbrev pub is_cell_word : Limits → List ℕ → Bool
is_cell_word limits word = is_star word || is_name_within limits word

-- a name that the limit allows, * or -
abbrev pub is_pin_word : Limits → List ℕ → Bool
is_pin_word limits word = is_star word || (is_dash word || is_name_within limits word)

abbrev pub is_waiver : Limits → Waiver → Bool
is_waiver limits w = is_cell_word limits w.cell && (is_pin_word limits w.pin && is_reason w.reason)

-- There are no more than the limit of records; the words for cells and pins and the reasons are right.
pub record AreWaivers (limits : Limits) (waivers : List Waiver) : Type 0 where
  pub few : length waivers ≤ limits.records
  pub right : list_all (is_waiver limits) waivers ≡ true
