-- What an index finds.
use Rattle.std.proofs.Common.{◌≡◌, ◌+◌, ◌<◌, ◌≤◌, ℕ, true, false, List, length, slice_index_or, Some, inl, inr, refl, sym, subst, ◌∙◌, arith}
use Rattle.std.specs.Prelude.{IsSorted, slice_get}
use Rattle.std.specs.Ordering.{is_lt, is_ne}
use Rattle.std.specs.List.Sorted.{IsPartitionPoint}
use Rattle.std.proofs.lemmas.Bool.{cases_lt}
use Rattle.std.proofs.lemmas.Option.{get_or_from_slice_get, slice_get_read, slice_get_within}
use Rattle.tern_core.specs.declared.tern.Tern.{Tern}
use Rattle.table_source.specs.declared.Row.{Row}
use Rattle.correspondence.specs.Cover.{Covers, CoversFirst, NoneCovers}
use Rattle.correspondence.specs.Index.{AreEntriesOf, IsEntryOf, IsFirstAt, Pair, entry_cmp, key, key_cmp, key_of}
use Rattle.correspondence.specs.declared.entry.Entry.{Entry}
use Rattle.correspondence.proofs.Orders.{later, not_below, not_behind, not_earlier}

-- the row of this entry doesn't cover
abbrev pub EntryCoversNot : List Row → List Tern → List Tern → List Tern → List Tern → Entry → Type 0
EntryCoversNot rows pins liberty udps nodes e = (row : Row) → slice_get rows e.row ≡ Some row → Covers row pins liberty udps nodes → ⊥

pub not_here : (rows : List Row) (pins liberty udps nodes : List Tern) (e : Entry) (row : Row) → slice_get rows e.row ≡ Some row
    → (Covers row pins liberty udps nodes → ⊥) → EntryCoversNot rows pins liberty udps nodes e
not_here rows pins liberty udps nodes e row at not r rt h =
    let same : r ≡ row = cc in
    not (subst (λ x. Covers x pins liberty udps nodes) same h)

pub first_from_cut : (entries : List Entry) (words : Pair) (i : ℕ) → i ≤ length entries
    → IsPartitionPoint (λ (e : Entry). is_lt (key_cmp (key_of e) words) ≡ true) (λ (e : Entry). is_lt (key_cmp (key_of e) words) ≡ false) entries i
    → IsFirstAt entries words i
first_from_cut entries words i le cut = record {
  within = le;
  below = λ j e lt at.
      subst (λ (x : Entry). is_lt (key_cmp (key_of x) words) ≡ true) (get_or_from_slice_get entries j e e at) (cut.0 j e (omega arith) lt);
  others = λ j e ge at.
      subst (λ (x : Entry). is_lt (key_cmp (key_of x) words) ≡ false) (get_or_from_slice_get entries j e e at) (cut.1 j e ge (slice_get_within entries j e at));
}

-- an entry of a row, and its place
pub record EntryAt (rows : List Row) (entries : List Entry) (j : ℕ) (row : Row) : Type 0 where
  pub place : ℕ
  pub entry : Entry
  pub within : place < length entries
  pub at_place : slice_get entries place ≡ Some entry
  pub own : entry.row ≡ j
  pub has_row : slice_get rows entry.row ≡ Some row

module _ (rows : List Row) (entries : List Entry) (are : AreEntriesOf rows entries) where
  pub own_at : (j : ℕ) (e : Entry) → slice_get entries j ≡ Some e → IsEntryOf rows e
  own_at j e at = subst (IsEntryOf rows) (get_or_from_slice_get entries j e e at) (are.own j e (slice_get_within entries j e at))

  pub entry_at : (j : ℕ) (row : Row) → slice_get rows j ≡ Some row → EntryAt rows entries j row
  entry_at j row at =
      let l = are.listed j (slice_get_within rows j row at) in
      record {
        place = l.among.0;
        entry = l.entry;
        within = l.among.1;
        at_place = slice_get_read entries (length entries) l.among.0 l.entry refl l.among.1 (sym l.among.2);
        own = l.own;
        has_row = subst (λ k. slice_get rows k ≡ Some row) (sym l.own) at;
      }

  pub row_within : (j : ℕ) (e : Entry) → slice_get entries j ≡ Some e → e.row < length rows
  row_within j e at = let o = own_at j e at in slice_get_within rows e.row o.row o.at_place

  module _ (up : IsSorted entry_cmp entries) (pins liberty udps nodes : List Tern) where
    -- an entry whose row covers has the key of these words
    pub same_key : (j : ℕ) (e : Entry) (row : Row) → slice_get entries j ≡ Some e → slice_get rows e.row ≡ Some row → Covers row pins liberty udps nodes → key_of e ≡ key pins liberty udps
    same_key j e row at in_rows h =
        let o = own_at j e at in
        let same : o.row ≡ row = (let f = o.at_place in cc) in
        let k : Covers o.row pins liberty udps nodes = subst (λ r. Covers r pins liberty udps nodes) (sym same) h in
        let p = k.same_pins in
        let l = k.same_liberty in
        let u = k.same_udps in
        o.own ∙ rw (p, l, u) refl

    pub below_covers_not : (j : ℕ) (e : Entry) → slice_get entries j ≡ Some e → is_lt (key_cmp (key_of e) (key pins liberty udps)) ≡ true
        → EntryCoversNot rows pins liberty udps nodes e
    below_covers_not j e at lt row in_rows h = not_below (key_of e) (key pins liberty udps) (same_key j e row at in_rows h) lt

    far : (i j : ℕ) (a b : Entry) → slice_get entries i ≡ Some a → slice_get entries j ≡ Some b → i ≤ j → is_lt (entry_cmp b a) ≡ false
    far i j a b at bt le =
        subst (λ x. is_lt (entry_cmp b x) ≡ false) (get_or_from_slice_get entries i a a at)
        (subst (λ y. is_lt (entry_cmp y (slice_index_or entries i a)) ≡ false) (get_or_from_slice_get entries j b a bt) (later entries i j a up le (slice_get_within entries j b bt)))

    -- no entry before this place covers
    abbrev pub NoneBefore : ℕ → Type 0
    NoneBefore i = (j : ℕ) (e : Entry) → j < i → slice_get entries j ≡ Some e → EntryCoversNot rows pins liberty udps nodes e

    pub none_at_end : (i : ℕ) → length entries ≤ i → NoneBefore i → NoneCovers rows pins liberty udps nodes
    none_at_end i end none j row at h =
        let e = entry_at j row at in
        let w = e.within in
        none e.place e.entry (omega arith) e.at_place row e.has_row h

    pub none_above : (i : ℕ) (a : Entry) → slice_get entries i ≡ Some a → NoneBefore i → is_lt (key_cmp (key_of a) (key pins liberty udps)) ≡ false
        → is_ne (key_cmp (key_of a) (key pins liberty udps)) ≡ true → NoneCovers rows pins liberty udps nodes
    none_above i a at none not ne j row in_rows h =
        let e = entry_at j row in_rows in
        elim (cases_lt e.place i) [
          | inl lt ↦ none e.place e.entry lt e.at_place row e.has_row h
          | inr le ↦ not_behind a e.entry (key pins liberty udps) not ne (far i e.place a e.entry at e.at_place le) (same_key e.place e.entry row e.at_place e.has_row h)
        ]

    pub first_here : (i : ℕ) (a : Entry) (row : Row) → slice_get entries i ≡ Some a → slice_get rows a.row ≡ Some row → NoneBefore i → Covers row pins liberty udps nodes
        → CoversFirst a.row rows pins liberty udps nodes
    first_here i a row at in_rows none h = record {
      row = row;
      at_place = in_rows;
      covers = h;
      none_before = λ j r lt rt k.
          let e = entry_at j r rt in
          elim (cases_lt e.place i) [
            | inl before ↦ none e.place e.entry before e.at_place r e.has_row k
            | inr le ↦
                not_earlier a e.entry (key pins liberty udps) (same_key i a row at in_rows h) (same_key e.place e.entry r e.at_place e.has_row k)
                (far i e.place a e.entry at e.at_place le) (subst (λ n. n < a.row) (sym e.own) lt)
          ];
    }

    pub none_more : (i : ℕ) (a : Entry) → slice_get entries i ≡ Some a → NoneBefore i → EntryCoversNot rows pins liberty udps nodes a → NoneBefore (i + 1)
    none_more i a at none here j e lt et row in_rows h =
        elim (cases_lt j i) [
          | inl before ↦ none j e before et row in_rows h
          | inr le ↦
              let same : j ≡ i = omega arith in
              let bt : slice_get entries i ≡ Some e = subst (λ k. slice_get entries k ≡ Some e) same et in
              let one : e ≡ a = cc in
              here row (subst (λ x. slice_get rows x.row ≡ Some row) one in_rows) h
        ]
