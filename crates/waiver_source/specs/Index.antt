-- How waivers are found: an entry for each, in the order of their words and places.
use Rattle.std.specs.Prelude.{◌≡◌, ◌<◌, ◌≤◌, ◌≤ℤ◌, ℕ, ℤ, Bool, true, false, List, map, Option, Some, None, cond, slice_get, All, Contains, IsSorted, length}
use Rattle.std.specs.Int.{int_max}
use Rattle.std.specs.Int.Signed.{lt_z}
use Rattle.std.specs.Ordering.{nat_cmp, is_eq, ordering_then}
use Rattle.std.specs.Cmp.Lexicographic.{slice_cmp}
use Rattle.std.specs.declared.cmp.Ordering.{Ordering}
use Rattle.std.specs.declared.cmp.Ordering.TheVariants.{Less, Equal, Greater}
use Rattle.verdict_text.specs.declared.finding.Code.{Code}
use Rattle.verdict_text.specs.Words.{code_word}
use Rattle.waiver_source.specs.declared.waiver.Waiver.{Waiver}
use Rattle.waiver_source.specs.declared.entry.Key.{Key}
use Rattle.waiver_source.specs.declared.entry.PlacedKey.{PlacedKey}
use Rattle.waiver_source.specs.declared.entry.Entry.{Entry}

-- what a waiver is found by: its code's word, its word for cells and its word for pins
abbrev pub Words : Type 0
Words = List ℕ × (List ℕ × List ℕ)

abbrev pub words_for : List ℕ → Code → List ℕ → Words
words_for cell code pin = (code_word code, (cell, pin))

abbrev pub words : Waiver → Words
words w = words_for w.cell w.code w.pin

abbrev pub words_of : Key → Words
words_of k = (k.code.now, (k.cell.items, k.pin.items))

abbrev pub words_cmp : Words → Words → Ordering
words_cmp a b = ordering_then (slice_cmp nat_cmp a.0 b.0) (ordering_then (slice_cmp nat_cmp a.1.0 b.1.0) (slice_cmp nat_cmp a.1.1 b.1.1))

-- by their words, and among equal ones by their places
abbrev pub placed_cmp : PlacedKey → PlacedKey → Ordering
placed_cmp a b = ordering_then (words_cmp (words_of a.key) (words_of b.key)) (nat_cmp a.place b.place)

-- the key is that of the waiver at its place
pub record IsKeyOf (waivers : List Waiver) (k : PlacedKey) : Type 0 where
  pub waiver : Waiver
  pub at_place : slice_get waivers k.place ≡ Some waiver
  pub own : words_of k.key ≡ words waiver

-- the waiver at this place has a key
pub record IsListed (keys : List PlacedKey) (place : ℕ) : Type 0 where
  pub key : PlacedKey
  pub among : Contains keys key
  pub own : key.place ≡ place

-- each key is that of a waiver, and each waiver has one
pub record AreKeysOf (waivers : List Waiver) (keys : List PlacedKey) : Type 0 where
  pub own : All (IsKeyOf waivers) keys
  pub listed : (place : ℕ) → place < length waivers → IsListed keys place

-- a waiver no later than this place, with these words
pub record IsUpTo (waivers : List Waiver) (q : Words) (place : ℕ) (w : Waiver) : Type 0 where
  pub at : ℕ
  pub no_later : at ≤ place
  pub at_place : slice_get waivers at ≡ Some w
  pub own : words w ≡ q

-- the day is the latest last day of the waivers with the key's words up to its place
pub record IsLatest (waivers : List Waiver) (k : PlacedKey) (latest : ℤ) : Type 0 where
  pub upper : (w : Waiver) → IsUpTo waivers (words_of k.key) k.place w → w.last ≤ℤ latest
  pub of : Waiver
  pub reached : IsUpTo waivers (words_of k.key) k.place of
  pub same : of.last ≡ latest

abbrev pub HasLatest : List Waiver → Entry → Type 0
HasLatest waivers e = IsLatest waivers e.placed e.latest

-- the latest last day behind an entry
abbrev pub latest_behind : Option Entry → Key → ℤ → ℤ
latest_behind None key last = last
latest_behind (Some e) key last = cond (is_eq (words_cmp (words_of e.placed.key) (words_of key))) (int_max e.latest last) last

abbrev pub placed_of : Entry → PlacedKey
placed_of e = e.placed

-- The entries are those of these waivers, in order, each with its latest last day.
pub record IsIndexOf (waivers : List Waiver) (entries : List Entry) : Type 0 where
  pub keys : AreKeysOf waivers (map placed_of entries)
  pub sorted : IsSorted placed_cmp (map placed_of entries)
  pub latest : All (HasLatest waivers) entries

abbrev pub before_by : Ordering → Bool → Bool
before_by Less equal = true
before_by Equal equal = equal
before_by Greater equal = false

-- the entry stands before those with these words whose latest last day isn't before the day
abbrev pub is_before : Words → ℤ → Entry → Bool
is_before q day e = before_by (words_cmp (words_of e.placed.key) q) (lt_z e.latest day)

-- the entries before this place stand before them, and no others do
pub record IsFirstAt (entries : List Entry) (q : Words) (day : ℤ) (place : ℕ) : Type 0 where
  pub below : (j : ℕ) (e : Entry) → j < place → slice_get entries j ≡ Some e → is_before q day e ≡ true
  pub others : (j : ℕ) (e : Entry) → place ≤ j → slice_get entries j ≡ Some e → is_before q day e ≡ false
