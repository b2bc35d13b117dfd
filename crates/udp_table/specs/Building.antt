-- What `build` makes of a text, and what it refuses.
use Rattle.std.specs.Prelude.{◌≡◌, ℕ, ◌+◌, ◌-◌, ◌^◌, ◌<◌, ◌≤◌, min, List, [], length, slice_index_or}
use Rattle.std.specs.List.{AllZip}
use Rattle.verilog_source.specs.declared.primitive.UdpText.{UdpText}
use Rattle.udp_table.specs.declared.row.Row.{Row}
use Rattle.udp_table.specs.declared.refusal.UdpRefusal.{UdpRefusal}
use Rattle.udp_table.specs.declared.refusal.UdpRefusal.TheVariants.{NoMemory, BadRow, RowsConflict, TooManyInputs}
use Rattle.udp_table.specs.Letters.{IsRow}
use Rattle.udp_table.specs.Conflicts.{HasNoConflict, IsFirstConflict}
use Rattle.udp_table.specs.Table.{Table}

-- rows count from 1, and one past the largest `u32` is told as that
abbrev pub number_at : ℕ → ℕ
number_at place = min (place + 1) (2 ^ 32 - 1)

-- the rows are those of the text, one by one
abbrev pub AreRowsOf : UdpText → List Row → Type 0
AreRowsOf text rows = AllZip (IsRow text.sequential text.inputs) text.rows rows

abbrev pub IsGoodRow : UdpText → List ℕ → Type 0
IsGoodRow text bytes = (row : Row) × IsRow text.sequential text.inputs bytes row

-- no row is written so, and each line before is a row
pub record IsFirstBadRow (text : UdpText) (place : ℕ) : Type 0 where
  pub in_text : place < length text.rows
  pub bad : IsGoodRow text (slice_index_or text.rows place []) → ⊥
  pub good_before : (k : ℕ) → k < place → IsGoodRow text (slice_index_or text.rows k [])

pub record IsBuilt (text : UdpText) (table : Table) : Type 0 where
  pub few_inputs : text.inputs ≤ 10
  pub name : table.name ≡ text.name
  pub sequential : table.sequential ≡ text.sequential
  pub inputs : table.inputs ≡ text.inputs
  pub rows : AreRowsOf text table.rows
  pub no_conflict : HasNoConflict table.sequential table.inputs table.rows

-- too many inputs are told first, then the first bad row, then the first conflict
abbrev pub IsRefused : UdpText → UdpRefusal → Type 0
IsRefused text NoMemory = Unit {0}
IsRefused text (TooManyInputs n) = (10 < text.inputs) × (n ≡ text.inputs)
IsRefused text (BadRow n) = (text.inputs ≤ 10) × ((place : ℕ) × IsFirstBadRow text place × (n ≡ number_at place))
IsRefused text (RowsConflict m n) =
    (text.inputs ≤ 10) × ((rows : List Row) × AreRowsOf text rows × ((i : ℕ) × ((j : ℕ) × IsFirstConflict text.sequential text.inputs rows i j × (m ≡ number_at i) × (n ≡ number_at j))))
