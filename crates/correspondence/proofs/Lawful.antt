-- Tables that are read have names, no cell twice, and lines in their order.
use Rattle.std.proofs.Common.{◌≡◌, ◌≤◌, ◌<◌, ◌+◌, ◌++◌, inl, inr, ℕ, zero, suc, Bool, true, false, List, [], ◌∷◌, length, map, subst}
use Rattle.std.proofs.Common.{Option, Some, None, Result, Ok, Err, refl, sym, ap, ◌∙◌, append_assoc, append-nil, arith}
use Rattle.std.specs.Prelude.{nat_le, if◌then◌else◌}
use Rattle.std.specs.List.{flat_map, list_all, list_any}
use Rattle.std.specs.Str.{bytes_eq}
use Rattle.std.proofs.lemmas.Bool.Decides.{nat_tests}
use Rattle.std.proofs.lemmas.List.{length-append, map-append}
use Rattle.std.proofs.lemmas.List.Concat.{flat_map-append}
use Rattle.std.proofs.lemmas.List.Folds.{list_all-append}
use Rattle.text_scan.specs.declared.limits.Limits.{Limits}
use Rattle.text_scan.specs.declared.refusal.FileRefusal.{FileRefusal}
use Rattle.text_scan.specs.declared.token.Token.{Token}
use Rattle.file_rules.specs.Names.{is_distinct, is_name, is_name_within, is_too_long}
use Rattle.file_rules.specs.Kept.{both_true, is_distinct-push, name_within}
use Rattle.grammar.specs.Rule.{none, Takes, Turns, Whole}
use Rattle.grammar.specs.Reading.{syntax, refusal, ◌>>=◌}
use Rattle.grammar.specs.Answers.{IsAnswer}
use Rattle.tern_core.specs.declared.tern.Tern.{Tern}
use Rattle.table_source.specs.Tables.{IsTables, are_ascending, are_names, are_told, cell_name, is_table, row_line, table_lines, with_xline}
use Rattle.table_source.specs.declared.Row.{Row}
use Rattle.table_source.specs.declared.Table.{Table}
use Rattle.table_source.specs.declared.Tables.{Tables}
use Rattle.correspondence.specs.Lines.{Line, PlacedWord, lines_of}
use Rattle.correspondence.specs.Kinds.{kind_of_line}
use Rattle.correspondence.specs.Words.{behind, bytes_of, first_of, line_number, more_refusal, name_refusal, names_of, names_refusal, row_of}
use Rattle.correspondence.specs.Words.{two_values, unless}
use Rattle.correspondence.specs.Parts.{made, nothing, with_names}
use Rattle.correspondence.specs.Actions.{add_names, add_row, begin, cell_of, cell_refusal, close, enter, enter_by, opened, table_of}
use Rattle.correspondence.specs.Grammar.{Answer, IsAnswered, from_nodes, from_pins, from_state, from_udps, from_xpins, line, rows, table}
use Rattle.correspondence.specs.Grammar.{tables, told}
use Rattle.correspondence.specs.declared.kinds.LineKind.{LineKind}
use Rattle.correspondence.specs.declared.kinds.LineKind.TheVariants as kinds
use Rattle.correspondence.specs.declared.table.NamesLine.{NamesLine}
use Rattle.correspondence.specs.declared.table.OpenTable.{OpenTable}
use Rattle.correspondence.specs.declared.parts.Parts.{Parts}
use Rattle.correspondence.proofs.Ascending.{IsBefore, before_not_zero, before_through, lines_ascend, numbers}
use Rattle.correspondence.proofs.Simple.{is_table as is_kind_table, is_pins, is_xpins, is_state, is_udps, is_nodes, is_row, is_end}

-- ---- lines in their order

abbrev Ascend : ℕ → List ℕ → Type 0
Ascend n ns = are_ascending n ns ≡ true

both_all : {X : Type 0} (p : X → Bool) (xs ys : List X) → list_all p xs ≡ true → list_all p ys ≡ true → list_all p (xs ++ ys) ≡ true
both_all p xs ys h k = list_all-append p xs ys ∙ rw (h, k) refl

first_before : (a b : ℕ) (ys : List ℕ) → Ascend a (b ∷ ys) → IsBefore a b × Ascend b ys
first_before a b ys h = both_true _ _ h

ascend_some : (a b : ℕ) (xs ys : List ℕ) → Ascend a (xs ++ b ∷ ys) → 0 < b
ascend_some a b [] ys h = before_not_zero a b (first_before a b ys h).0
ascend_some a b (x ∷ xs) ys h = ascend_some x b xs ys (first_before a x (xs ++ b ∷ ys) h).1

-- a line less is still in order
ascend_less : (a b : ℕ) (ys : List ℕ) → Ascend a (b ∷ ys) → Ascend a ys
ascend_less a b [] h = refl
ascend_less a b (y ∷ ys) h =
    let first = first_before a b (y ∷ ys) h in
    let next = first_before b y ys first.1 in
    let through = before_through a b y first.0 next.0 in
    rw (through, next.1) refl

ascend_without : (a b : ℕ) (xs ys : List ℕ) → Ascend a (xs ++ b ∷ ys) → Ascend a (xs ++ ys)
ascend_without a b [] ys h = ascend_less a b ys h
ascend_without a b (x ∷ xs) ys h =
    let both = first_before a x (xs ++ b ∷ ys) h in
    let rest = ascend_without x b xs ys both.1 in
    rw (both.0, rest) refl

snoc : {X : Type 0} (xs ys : List X) (x : X) → (xs ++ x ∷ []) ++ ys ≡ xs ++ x ∷ ys
snoc xs ys x = append_assoc xs (x ∷ []) ys

told_some : (n : ℕ) (names : List (List ℕ)) → 0 < n → are_told n names ≡ true
told_some zero names h = absurd (omega arith)
told_some (suc k) names h = refl

xline_some : (n p : ℕ) → 0 < n → with_xline n (p ∷ []) ≡ p ∷ n ∷ []
xline_some zero p h = absurd (omega arith)
xline_some (suc k) p h = refl

head_lines : (a x p s u n : ℕ) → a ∷ with_xline x (p ∷ s ∷ u ∷ n ∷ []) ++ [] ≡ (((a ∷ with_xline x (p ∷ [])) ++ s ∷ []) ++ u ∷ []) ++ n ∷ []
head_lines a zero p s u n = refl
head_lines a (suc k) p s u n = refl

-- ---- words that are no refusal

first_none : (a b : Option FileRefusal) → first_of a b ≡ None → (a ≡ None) × (b ≡ None)
first_none None b h = (refl, h)
first_none (Some x) b h = cc h

not_some : (b : Bool) (e : FileRefusal) → (if b then Some e else None) ≡ None → b ≡ false
not_some true e h = cc h
not_some false e h = refl

unless_none : {X : Type 0} (o : Option FileRefusal) (x y : X) → unless o x ≡ Ok y → (o ≡ None) × (x ≡ y)
unless_none None x y h = (refl, cc h)
unless_none (Some e) x y h = cc h

named : (limits : Limits) (w : PlacedWord) → name_refusal limits w ≡ None → is_name_within limits w.bytes ≡ true
unfolding name_refusal
named limits w h = go (is_too_long limits w.bytes) (is_name w.bytes) refl refl _ _ h
  where
    go : (long name : Bool) → is_too_long limits w.bytes ≡ long → is_name w.bytes ≡ name → (a b : FileRefusal)
        → (if long then Some a else if name then None else Some b) ≡ None
        → is_name_within limits w.bytes ≡ true
    go true name e f a b k = cc k
    go false false e f a b k = cc k
    go false true e f a b k = name_within limits w.bytes f e

are_named : (limits : Limits) (ws : List PlacedWord) → names_refusal limits ws ≡ None → are_names limits (map bytes_of ws) ≡ true
unfolding names_refusal
are_named limits [] h = refl
are_named limits (w ∷ ws) h =
    let parts = first_none _ _ h in
    let first : is_name_within limits w.bytes ≡ true = named limits w parts.0 in
    let rest : are_names limits (map bytes_of ws) ≡ true = are_named limits ws parts.1 in
    rw (first, rest) refl

-- ---- what a line adds

record AreAdded (limits : Limits) (kind : LineKind) (l : Line) (s m : Parts) : Type 0 where
  names : NamesLine
  same : (record s { current = with_names kind names s.current }) ≡ m
  named : are_names limits names.names ≡ true
  line : names.line ≡ line_number l

names_added : (limits : Limits) (kind : LineKind) (l : Line) (s m : Parts) → add_names limits kind (line_number l) (behind l.words) s ≡ Ok m
    → AreAdded limits kind l s m
unfolding add_names names_of
names_added limits kind l s m h = go (names_refusal limits (behind l.words)) refl h
  where
    go : (o : Option FileRefusal) → names_refusal limits (behind l.words) ≡ o
        → (unless o (let n : NamesLine = record { names = map bytes_of (behind l.words); line = line_number l } in n)
        >>= λ n. Ok (record s { current = with_names kind n s.current })) ≡ Ok m
        → AreAdded limits kind l s m
    go None e k = record {
      names = record { names = map bytes_of (behind l.words); line = line_number l };
      same = cc k;
      named = are_named limits (behind l.words) e;
      line = refl;
    }
    go (Some x) e k = cc k

abbrev Values : Type 0
Values = (List Tern × List Tern) × List PlacedWord

abbrev row_with : ℕ → Values → Values → Row
row_with number a b = record { line = number; pins = a.0.0; liberty = a.0.1; udps = b.0.0; nodes = b.0.1 }

abbrev with_last : ℕ → Values → Values → Result Row FileRefusal
with_last number a b = unless (more_refusal b.1) (row_with number a b)

abbrev with_first : ℕ → Token → Values → Result Row FileRefusal
with_first number ending a = two_values a.1 ending >>= with_last number a

last_numbered : (number : ℕ) (a : Values) (b : Result Values FileRefusal) (r : Row) → (b >>= with_last number a) ≡ Ok r → r.line ≡ number
last_numbered number a (Ok b) r k = ap row_line (sym (unless_none (more_refusal b.1) (row_with number a b) r k).1)
last_numbered number a (Err e) r k = cc k

first_numbered : (number : ℕ) (ending : Token) (a : Result Values FileRefusal) (r : Row) → (a >>= with_first number ending) ≡ Ok r
    → r.line ≡ number
first_numbered number ending (Ok a) r k = last_numbered number a (two_values a.1 ending) r k
first_numbered number ending (Err e) r k = cc k

row_numbered : (number : ℕ) (ws : List PlacedWord) (ending : Token) (r : Row) → row_of number ws ending ≡ Ok r → r.line ≡ number
unfolding row_of
row_numbered number ws ending r h = first_numbered number ending (two_values ws ending) r h

record IsAdded (l : Line) (s m : Parts) : Type 0 where
  row : Row
  same : (record s { current = record s.current { rows = s.current.rows ++ row ∷ [] } }) ≡ m
  line : row.line ≡ line_number l

row_added : (l : Line) (s m : Parts) → add_row (line_number l) (behind l.words) l.ending s ≡ Ok m → IsAdded l s m
unfolding add_row
row_added l s m h = go (row_of (line_number l) (behind l.words) l.ending) refl h
  where
    go : (r : Result Row FileRefusal) → row_of (line_number l) (behind l.words) l.ending ≡ r
        → (r >>= λ r. Ok (record s { current = record s.current { rows = s.current.rows ++ r ∷ [] } })) ≡ Ok m → IsAdded l s m
    go (Ok r) e k = record { row = r; same = cc k; line = row_numbered (line_number l) (behind l.words) l.ending r e }
    go (Err e) f k = cc k

entered : (limits : Limits) (k : LineKind) (l : Line) (s m : Parts) → kind_of_line l ≡ k → enter limits l s ≡ Ok m
    → enter_by limits k (line_number l) (behind l.words) l.ending s ≡ Ok m
unfolding enter
entered limits k l s m e h = subst (λ z. enter_by limits z (line_number l) (behind l.words) l.ending s ≡ Ok m) e h

-- ---- outside tables, and in one

record AreNamed (limits : Limits) (o : OpenTable) : Type 0 where
  cell : is_name_within limits o.cell ≡ true
  pins : are_names limits o.pins.names ≡ true
  xpins : are_names limits o.xpins.names ≡ true
  told : are_told o.xpins.line o.xpins.names ≡ true
  state : are_names limits o.state.names ≡ true
  udps : are_names limits o.udps.names ≡ true
  nodes : are_names limits o.nodes.names ≡ true

with_named : (limits : Limits) (kind : LineKind) (n : NamesLine) (o : OpenTable) → AreNamed limits o → are_names limits n.names ≡ true
    → 0 < n.line → AreNamed limits (with_names kind n o)
with_named limits kinds.Pins n o h k i = record {
  cell = h.cell;
  pins = k;
  xpins = h.xpins;
  told = h.told;
  state = h.state;
  udps = h.udps;
  nodes = h.nodes;
}
with_named limits kinds.Xpins n o h k i = record {
  cell = h.cell;
  pins = h.pins;
  xpins = k;
  told = told_some n.line n.names i;
  state = h.state;
  udps = h.udps;
  nodes = h.nodes;
}
with_named limits kinds.State n o h k i = record {
  cell = h.cell;
  pins = h.pins;
  xpins = h.xpins;
  told = h.told;
  state = k;
  udps = h.udps;
  nodes = h.nodes;
}
with_named limits kinds.Udps n o h k i = record {
  cell = h.cell;
  pins = h.pins;
  xpins = h.xpins;
  told = h.told;
  state = h.state;
  udps = k;
  nodes = h.nodes;
}
with_named limits kinds.Nodes n o h k i = record {
  cell = h.cell;
  pins = h.pins;
  xpins = h.xpins;
  told = h.told;
  state = h.state;
  udps = h.udps;
  nodes = k;
}
with_named limits kinds.Table n o h k i = h
with_named limits kinds.Row n o h k i = h
with_named limits kinds.End n o h k i = h
with_named limits kinds.Other n o h k i = h

with_cell : (kind : LineKind) (n : NamesLine) (o : OpenTable) → (with_names kind n o).cell ≡ o.cell
with_cell kinds.Pins n o = refl
with_cell kinds.Xpins n o = refl
with_cell kinds.State n o = refl
with_cell kinds.Udps n o = refl
with_cell kinds.Nodes n o = refl
with_cell kinds.Table n o = refl
with_cell kinds.Row n o = refl
with_cell kinds.End n o = refl
with_cell kinds.Other n o = refl

made_named : (limits : Limits) (o : OpenTable) → AreNamed limits o → is_table limits (made o) ≡ true
made_named limits o h = rw (h.cell, h.pins, h.xpins, h.told, h.state, h.udps, h.nodes) refl

abbrev file_lines : List Table → List ℕ
file_lines ts = flat_map table_lines ts

module _ (limits : Limits) where
  record IsOutside (s : Parts) (ls : List Line) : Type 0 where
    names : s.names ≡ map cell_name s.tables
    distinct : is_distinct s.names ≡ true
    few : length s.tables ≤ limits.cells
    named : list_all (is_table limits) s.tables ≡ true
    lines : Ascend 0 (file_lines s.tables ++ numbers ls)

  -- the lines of the table that are read so far have these numbers
  record IsInside (s : Parts) (ns : List ℕ) (ls : List Line) : Type 0 where
    names : s.names ≡ map cell_name s.tables ++ s.current.cell ∷ []
    distinct : is_distinct s.names ≡ true
    few : length s.tables < limits.cells
    named : list_all (is_table limits) s.tables ≡ true
    current : AreNamed limits s.current
    lines : Ascend 0 ((file_lines s.tables ++ ns) ++ numbers ls)

  -- ---- the first line

  begun : (l : Line) (s m : Parts) (ls us : List Line) → ls ≡ l ∷ us → IsOutside s ls
      → begin limits (line_number l) (behind l.words) l.ending s ≡ Ok m
      → (cell : List ℕ) × (m.current ≡ table_of (line_number l) cell) × IsInside m (line_number l ∷ []) us
  unfolding begin cell_refusal
  begun l s m ls us e h k = by_room (nat_le limits.cells (length s.tables)) refl _ k
    where
      inside : (w : PlacedWord) → length s.tables < limits.cells → is_name_within limits w.bytes ≡ true
          → list_any (bytes_eq w.bytes) s.names ≡ false
          → IsInside (opened (line_number l) w.bytes s) (line_number l ∷ []) us
      inside w less good new = record {
        names = ap (λ (z : List (List ℕ)). z ++ w.bytes ∷ []) h.names;
        distinct = is_distinct-push s.names w.bytes h.distinct new;
        few = less;
        named = h.named;
        current = record { cell = good; pins = refl; xpins = refl; told = refl; state = refl; udps = refl; nodes = refl };
        lines = subst (Ascend 0)
            (ap (λ z. file_lines s.tables ++ numbers z) e ∙ sym (snoc (file_lines s.tables) (numbers us) (line_number l))) h.lines;
      }

      by_words : (ws : List PlacedWord) → length s.tables < limits.cells
          → unless (cell_refusal limits s.names ws l.ending) (opened (line_number l) (cell_of ws) s) ≡ Ok m
          → (cell : List ℕ) × (m.current ≡ table_of (line_number l) cell) × IsInside m (line_number l ∷ []) us
      by_words [] less i = cc i
      by_words (w ∷ ws) less i =
          let read = unless_none _ _ m i in
          let judged = first_none _ _ (first_none _ _ read.0).0 in
          let good : is_name_within limits w.bytes ≡ true = named limits w judged.0 in
          let new : list_any (bytes_eq w.bytes) s.names ≡ false = not_some _ _ judged.1 in
          let there = subst (λ z. IsInside z (line_number l ∷ []) us) read.1 (inside w less good new) in
          (w.bytes, ap (λ (z : Parts). z.current) (sym read.1), there)

      by_room : (g : Bool) → nat_le limits.cells (length s.tables) ≡ g → (e : FileRefusal)
          → (if g then Err e
          else unless (cell_refusal limits s.names (behind l.words) l.ending) (opened (line_number l) (cell_of (behind l.words)) s)) ≡ Ok m
          → (cell : List ℕ) × (m.current ≡ table_of (line_number l) cell) × IsInside m (line_number l ∷ []) us
      by_room true f e i = cc i
      by_room false f e i = let less : length s.tables < limits.cells = grind (arith, nat_tests) in by_words (behind l.words) less i

  -- ---- lines of names

  record IsNext (kind : LineKind) (s m : Parts) (ns : List ℕ) (us : List Line) : Type 0 where
    names : NamesLine
    current : m.current ≡ with_names kind names s.current
    some : 0 < names.line
    inside : IsInside m (ns ++ names.line ∷ []) us

  abbrev Adds : LineKind → Type 0
  Adds kind = (l : Line) (s : Parts)
      → enter_by limits kind (line_number l) (behind l.words) l.ending s ≡ add_names limits kind (line_number l) (behind l.words) s

  next : (kind : LineKind) → Adds kind → (l : Line) (s m : Parts) (ns : List ℕ) (ls us : List Line) → ls ≡ l ∷ us → kind_of_line l ≡ kind
      → enter limits l s ≡ Ok m → IsInside s ns ls → IsNext kind s m ns us
  next kind adds l s m ns ls us e f k h =
      let read = names_added limits kind l s m (sym (adds l s) ∙ entered limits kind l s m f k) in
      let in_order : Ascend 0 ((file_lines s.tables ++ ns) ++ line_number l ∷ numbers us) =
      subst (λ z. Ascend 0 ((file_lines s.tables ++ ns) ++ numbers z)) e h.lines in
      let some : 0 < read.names.line =
      subst (λ z. 0 < z) (sym read.line) (ascend_some 0 (line_number l) (file_lines s.tables ++ ns) (numbers us) in_order) in
      let there : IsInside (record s { current = with_names kind read.names s.current }) (ns ++ read.names.line ∷ []) us = record {
        names = h.names ∙ ap (λ z. map cell_name s.tables ++ z ∷ []) (sym (with_cell kind read.names s.current));
        distinct = h.distinct;
        few = h.few;
        named = h.named;
        current = with_named limits kind read.names s.current h.current read.named some;
        lines = subst (Ascend 0) (over_one (file_lines s.tables) ns (numbers us) (line_number l) read.names.line (sym read.line)) in_order;
      } in
      record {
        names = read.names;
        current = ap (λ (z : Parts). z.current) (sym read.same);
        some = some;
        inside = subst (λ z. IsInside z (ns ++ read.names.line ∷ []) us) read.same there;
      }
    where
      over_one : (xs ns ys : List ℕ) (a b : ℕ) → a ≡ b → (xs ++ ns) ++ a ∷ ys ≡ (xs ++ (ns ++ b ∷ [])) ++ ys
      over_one xs ns ys a b e = ap (λ z. (xs ++ ns) ++ z ∷ ys) e ∙ sym (snoc (xs ++ ns) ys b)
          ∙ ap (λ z. z ++ ys) (append_assoc xs ns (b ∷ []))

  -- ---- rows and the end

  -- the lines that are read are those of the table
  abbrev IsFull : Parts → List Line → Type 0
  IsFull s ls = IsInside s (table_lines (made s.current)) ls

  row_next : (l : Line) (s m : Parts) (ls us : List Line) → ls ≡ l ∷ us → kind_of_line l ≡ kinds.Row → enter limits l s ≡ Ok m → IsFull s ls
      → IsFull m us
  row_next l s m ls us e f k h =
      let read = row_added l s m (entered limits kinds.Row l s m f k) in
      let c : OpenTable = s.current in
      let old : List ℕ = table_lines (made c) in
      let more : table_lines (made (record c { rows = c.rows ++ read.row ∷ [] })) ≡ old ++ line_number l ∷ [] =
      ap (λ z. c.line ∷ with_xline c.xpins.line (c.pins.line ∷ c.state.line ∷ c.udps.line ∷ c.nodes.line ∷ []) ++ z)
      (map-append row_line c.rows (read.row ∷ []))
      ∙ sym (append_assoc
      (c.line ∷ with_xline c.xpins.line (c.pins.line ∷ c.state.line ∷ c.udps.line ∷ c.nodes.line ∷ []))
      (map row_line c.rows) (read.row.line ∷ []))
      ∙ ap (λ z. old ++ z ∷ []) read.line in
      let new : List ℕ = table_lines (made (record c { rows = c.rows ++ read.row ∷ [] })) in
      let numbered : (file_lines s.tables ++ old) ++ numbers ls ≡ (file_lines s.tables ++ new) ++ numbers us =
      ap (λ z. (file_lines s.tables ++ old) ++ numbers z) e ∙ sym (snoc (file_lines s.tables ++ old) (numbers us) (line_number l))
      ∙ ap (λ z. z ++ numbers us)
      (append_assoc (file_lines s.tables) old (line_number l ∷ []) ∙ ap (λ z. file_lines s.tables ++ z) (sym more)) in
      let n = h.current in
      subst (λ z. IsFull z us) read.same (record {
        names = h.names;
        distinct = h.distinct;
        few = h.few;
        named = h.named;
        current = record { cell = n.cell; pins = n.pins; xpins = n.xpins; told = n.told; state = n.state; udps = n.udps; nodes = n.nodes };
        lines = subst (Ascend 0) numbered h.lines;
      })

  shut : (l : Line) (s m : Parts) (ls us : List Line) → ls ≡ l ∷ us → close (behind l.words) s ≡ Ok m → IsFull s ls → IsOutside m us
  unfolding close
  shut l s m ls us e i h =
      let read = unless_none _ _ m i in
      let good = made_named limits s.current h.current in
      let one : list_all (is_table limits) (made s.current ∷ []) ≡ true = rw good refl in
      let more : length (s.tables ++ made s.current ∷ []) ≡ length s.tables + 1 = length-append s.tables (made s.current ∷ []) in
      let less = h.few in
      let joined : file_lines s.tables ++ table_lines (made s.current) ≡ file_lines (s.tables ++ made s.current ∷ []) =
      ap (λ z. file_lines s.tables ++ z) (sym (append-nil (table_lines (made s.current))))
      ∙ sym (flat_map-append table_lines s.tables (made s.current ∷ [])) in
      let rest : Ascend 0 ((file_lines s.tables ++ table_lines (made s.current)) ++ numbers us) =
      ascend_without 0 (line_number l) (file_lines s.tables ++ table_lines (made s.current)) (numbers us)
      (subst (λ z. Ascend 0 ((file_lines s.tables ++ table_lines (made s.current)) ++ numbers z)) e h.lines) in
      subst (λ z. IsOutside z us) read.1 (record {
        names = h.names ∙ sym (map-append cell_name s.tables (made s.current ∷ []));
        distinct = h.distinct;
        few = omega (arith, less, more);
        named = both_all (is_table limits) s.tables (made s.current ∷ []) h.named one;
        lines = subst (λ z. Ascend 0 (z ++ numbers us)) joined rest;
      })

  closed : (l : Line) (s m : Parts) (ls us : List Line) → ls ≡ l ∷ us → kind_of_line l ≡ kinds.End → enter limits l s ≡ Ok m → IsFull s ls
      → IsOutside m us
  closed l s m ls us e f k h = shut l s m ls us e (entered limits kinds.End l s m f k) h

  -- ---- what the grammar takes

  row_turns : (n : ℕ) (s t : Parts) (ls rest : List Line) → IsFull s ls → Turns (Takes (line limits kinds.Row none)) n s ls t rest
      → IsFull t rest
  unfolding Turns Takes
  row_turns zero s t ls rest h k = subst (λ z. IsFull t z) k.0 (subst (λ z. IsFull z ls) k.1 h)
  row_turns (suc n) s t ls rest h k =
      let r = k.2 in
      let one = row_next r.0 s r.2 ls r.1 r.3 (is_row (kind_of_line r.0) r.4) r.5 h in
      let here = subst (λ z. IsFull r.2 z) r.6.0 one in
      row_turns n k.1 t k.0 rest (subst (λ z. IsFull z k.0) r.6.1 here) k.3

  rows_taken : (s t : Parts) (ls rest : List Line) → IsFull s ls → Takes (rows limits) s ls t rest → IsOutside t rest
  unfolding rows Takes
  rows_taken s t ls rest h k =
      let inner = row_turns k.2.0 s k.1 ls k.0 h k.2.1 in
      let r = k.3 in
      let out = closed r.0 k.1 r.2 k.0 r.1 r.3 (is_end (kind_of_line r.0) r.4) r.5 inner in
      subst (λ z. IsOutside t z) r.6.0 (subst (λ z. IsOutside z r.1) r.6.1 out)

  abbrev head : ℕ → List ℕ → NamesLine → NamesLine → OpenTable
  head at cell pins xpins = record (table_of at cell) { pins = pins; xpins = xpins }

  -- the lines of lists behind those of pins
  state_taken : (at : ℕ) (cell : List ℕ) (pins xpins : NamesLine) (s t : Parts) (ls rest : List Line) → s.current ≡ head at cell pins xpins
      → IsInside s (at ∷ with_xline xpins.line (pins.line ∷ [])) ls → Takes (from_state limits) s ls t rest → IsOutside t rest
  unfolding from_state from_udps from_nodes Takes
  state_taken at cell pins xpins s t ls rest e h k =
      let a = next kinds.State (λ l s. refl) k.0 s k.2 _ ls k.1 k.3 (is_state (kind_of_line k.0) k.4) k.5 h in
      let k2 = k.6 in
      let b = next kinds.Udps (λ l s. refl) k2.0 k.2 k2.2 _ k.1 k2.1 k2.3 (is_udps (kind_of_line k2.0) k2.4) k2.5 a.inside in
      let k3 = k2.6 in
      let c = next kinds.Nodes (λ l s. refl) k3.0 k2.2 k3.2 _ k2.1 k3.1 k3.3 (is_nodes (kind_of_line k3.0) k3.4) k3.5 b.inside in
      let two : OpenTable = with_names kinds.Udps b.names (with_names kinds.State a.names (head at cell pins xpins)) in
      let is : k3.2.current ≡ with_names kinds.Nodes c.names two =
      c.current
      ∙ ap (with_names kinds.Nodes c.names)
      (b.current ∙ ap (with_names kinds.Udps b.names) (a.current ∙ ap (with_names kinds.State a.names) e)) in
      let full = ap (λ (z : OpenTable). table_lines (made z)) is
      ∙ head_lines at xpins.line pins.line a.names.line b.names.line c.names.line in
      rows_taken k3.2 t k3.1 rest (subst (λ z. IsInside k3.2 z k3.1) (sym full) c.inside) k3.6

  pins_taken : (at : ℕ) (cell : List ℕ) (s t : Parts) (ls rest : List Line) → s.current ≡ table_of at cell → IsInside s (at ∷ []) ls
      → Takes (from_pins limits) s ls t rest → IsOutside t rest
  unfolding from_pins from_xpins Takes
  pins_taken at cell s t ls rest e h k =
      let a = next kinds.Pins (λ l s. refl) k.0 s k.2 _ ls k.1 k.3 (is_pins (kind_of_line k.0) k.4) k.5 h in
      go a.names (a.current ∙ ap (with_names kinds.Pins a.names) e) a.inside k.6
    where
      go : (pins : NamesLine) → k.2.current ≡ with_names kinds.Pins pins (table_of at cell) → IsInside k.2 (at ∷ pins.line ∷ []) k.1
          → Takes (from_xpins limits) k.2 k.1 t rest → IsOutside t rest
      go pins f i (inl x) =
          let b = next kinds.Xpins (λ l s. refl) x.0 k.2 x.2 _ k.1 x.1 x.3 (is_xpins (kind_of_line x.0) x.4) x.5 i in
          let lines : at ∷ with_xline b.names.line (pins.line ∷ []) ≡ at ∷ pins.line ∷ b.names.line ∷ [] =
          ap (λ z. at ∷ z) (xline_some b.names.line pins.line b.some) in
          state_taken at cell pins b.names x.2 t x.1 rest (b.current ∙ ap (with_names kinds.Xpins b.names) f)
          (subst (λ z. IsInside x.2 z x.1) (sym lines) b.inside) x.6
      go pins f i (inr x) = state_taken at cell pins (record { names = []; line = 0 }) k.2 t k.1 rest f i x

  table_taken : (s t : Parts) (ls rest : List Line) → IsOutside s ls → Takes (table limits) s ls t rest → IsOutside t rest
  unfolding Takes
  table_taken s t ls rest h k =
      let b = begun k.0 s k.2 ls k.1 k.3 h (entered limits kinds.Table k.0 s k.2 (is_kind_table (kind_of_line k.0) k.4) k.5) in
      pins_taken (line_number k.0) b.0 k.2 t k.1 rest b.1 b.2 k.6

  table_turns : (n : ℕ) (s t : Parts) (ls rest : List Line) → IsOutside s ls → Turns (Takes (table limits)) n s ls t rest → IsOutside t rest
  unfolding Turns
  table_turns zero s t ls rest h k = subst (λ z. IsOutside t z) k.0 (subst (λ z. IsOutside z ls) k.1 h)
  table_turns (suc n) s t ls rest h k = table_turns n k.1 t k.0 rest (table_taken s k.1 ls k.0 h k.2) k.3

  whole_well : (text : List ℕ) (s : Parts) → Whole (tables limits) nothing (lines_of text) s → IsOutside s []
  unfolding tables Takes Whole
  whole_well text s k = table_turns k.0 nothing s (lines_of text) []
      (record { names = refl; distinct = refl; few = omega arith; named = refl; lines = lines_ascend text }) k.1

  answer_well : (text : List ℕ) (o : Answer) (n : Tables) → IsAnswer (tables limits) nothing (lines_of text) o → told text o ≡ Ok n
      → IsTables limits n
  unfolding told
  answer_well text (Ok s) n h e =
      let well = whole_well text s h in
      let same : record { tables = s.tables } ≡ n = cc e in
      subst (IsTables limits) same (record {
        few = well.few;
        named = well.named;
        distinct = subst (λ (z : List (List ℕ)). is_distinct z ≡ true) well.names well.distinct;
        lines = subst (Ascend 0) (append-nil (file_lines s.tables)) well.lines;
      })
  answer_well text (Err (syntax rest)) n h e = cc e
  answer_well text (Err (refusal f rest)) n h e = cc e

  -- tables that are answered
  pub lawful : (text : List ℕ) (n : Tables) → IsAnswered text limits (Ok n) → IsTables limits n
  lawful text n h = answer_well text h.answer n h.is h.agrees
