-- An index of a table's rows.
use Rattle.std.specs.Prelude.{◌≡◌, ◌<◌, ◌≤◌, ◌+◌, ◌*◌, ◌++◌, ℕ, true, false, nat_lt, if◌then◌else◌, List, map, length, All, Contains}
use Rattle.std.specs.Prelude.{IsSorted, slice_get, Some}
use Rattle.std.specs.List.{fold}
use Rattle.std.specs.Ordering.{nat_cmp, is_lt, ordering_then}
use Rattle.std.specs.Cmp.Lexicographic.{slice_cmp}
use Rattle.std.specs.declared.cmp.Ordering.{Ordering}
use Rattle.tern_core.specs.declared.tern.Tern.{Tern}
use Rattle.tern_core.specs.declared.tern.Tern.TheVariants.{Zero, One, Unknown}
use Rattle.table_source.specs.declared.Row.{Row}
use Rattle.correspondence.specs.declared.entry.Entry.{Entry}
use Rattle.correspondence.specs.declared.entry.Key.{Key}
use Rattle.correspondence.specs.declared.index.RowIndex.{RowIndex}

abbrev pub code : Tern → ℕ
code Zero = 0
code One = 1
code Unknown = 2

-- the number of some values and one more; from 2^55 on it stays
unfoldable pub with_value : ℕ → Tern → ℕ
with_value n value = if nat_lt n 36028797018963968 then n * 4 + code value else n

abbrev pub front_from : ℕ → List Tern → ℕ
front_from n word = fold with_value n word

-- a number of the first values of three words
abbrev pub front : List Tern → List Tern → List Tern → ℕ
front pins liberty udps = front_from (front_from (front_from 0 pins) liberty) udps

-- the three words one behind the other
abbrev pub words : List Tern → List Tern → List Tern → List ℕ
words pins liberty udps = map code pins ++ (map code liberty ++ map code udps)

-- what rows are found by: both
abbrev pub Pair : Type 0
Pair = ℕ × List ℕ

abbrev pub key : List Tern → List Tern → List Tern → Pair
key pins liberty udps = (front pins liberty udps, words pins liberty udps)

abbrev pub pair_of : Key → Pair
pair_of k = (k.front, k.words.items)

abbrev pub key_of : Entry → Pair
key_of e = pair_of e.key

-- by their numbers, and among equal ones by their words
abbrev pub key_cmp : Pair → Pair → Ordering
key_cmp a b = ordering_then (nat_cmp a.0 b.0) (slice_cmp nat_cmp a.1 b.1)

-- the entry of this row at this place
pub record IsOf (row : Row) (place : ℕ) (e : Entry) : Type 0 where
  pub own : key_of e ≡ key row.pins row.liberty row.udps
  pub at_place : e.row ≡ place

-- the entry is that of a row, and has its key
pub record IsEntryOf (rows : List Row) (e : Entry) : Type 0 where
  pub row : Row
  pub at_place : slice_get rows e.row ≡ Some row
  pub own : key_of e ≡ key row.pins row.liberty row.udps

-- the row at this place has an entry
pub record IsListed (entries : List Entry) (place : ℕ) : Type 0 where
  pub entry : Entry
  pub among : Contains entries entry
  pub own : entry.row ≡ place

-- each entry is that of a row, and each row has one
pub record AreEntriesOf (rows : List Row) (entries : List Entry) : Type 0 where
  pub own : All (IsEntryOf rows) entries
  pub listed : (place : ℕ) → place < length rows → IsListed entries place

-- by their keys, and among equal ones by their rows
abbrev pub entry_cmp : Entry → Entry → Ordering
entry_cmp a b = ordering_then (key_cmp (key_of a) (key_of b)) (nat_cmp a.row b.row)

-- the index is one of these rows
pub record IsIndexOf (rows : List Row) (index : RowIndex) : Type 0 where
  pub entries : AreEntriesOf rows index.entries.items
  pub sorted : IsSorted entry_cmp index.entries.items

abbrev pub IsSortedIndex : RowIndex → Type 0
IsSortedIndex index = IsSorted entry_cmp index.entries.items

-- the keys before this place are below this one, and no others are
pub record IsFirstAt (entries : List Entry) (key : Pair) (place : ℕ) : Type 0 where
  pub within : place ≤ length entries
  pub below : (j : ℕ) (e : Entry) → j < place → slice_get entries j ≡ Some e → is_lt (key_cmp (key_of e) key) ≡ true
  pub others : (j : ℕ) (e : Entry) → place ≤ j → slice_get entries j ≡ Some e → is_lt (key_cmp (key_of e) key) ≡ false
