-- A library that is read has names, directed pins, words that can be shown, and no name twice.
use Rattle.std.proofs.Common.{◌≡◌, ◌≤◌, ◌++◌, ℕ, Bool, true, false, List, [], ◌∷◌, length, map, subst, Option, Some, None, Result, Ok, Err, IfOk, refl, sym, ap, ◌∙◌, arith}
use Rattle.std.specs.Prelude.{◌&&◌, ◌||◌, ◌==◌, not, if◌then◌else◌, nat_lt, nat_le, filter, codes}
use Rattle.std.specs.List.{list_all, list_any}
use Rattle.std.specs.Str.{bytes_eq}
use Rattle.std.proofs.lemmas.List.{length-map, map-append}
use Rattle.std.proofs.lemmas.List.Folds.{list_all-append}
use Rattle.text_scan.specs.declared.token.Token.{Token}
use Rattle.text_scan.specs.declared.limits.Limits.{Limits}
use Rattle.text_scan.specs.declared.refusal.FileRefusal.{FileRefusal}
use Rattle.text_scan.specs.declared.pins.Direction.{Direction}
use Rattle.text_scan.specs.declared.pins.Direction.TheVariants as directions
use Rattle.text_scan.specs.declared.pins.PinKind.{PinKind}
use Rattle.text_scan.specs.declared.pins.PinKind.TheVariants as pin_kinds
use Rattle.file_rules.specs.Names.{is_distinct, is_name, is_name_within, is_shown, is_too_long, shown_string, shown_word}
use Rattle.file_rules.specs.Kept.{both_true, name_within, neither_true, shown_string-shown, shown_word-shown}
use Rattle.liberty_source.specs.declared.Library.{Library}
use Rattle.liberty_source.specs.declared.CellPart.{CellPart}
use Rattle.liberty_source.specs.declared.LibertyPin.{LibertyPin}
use Rattle.liberty_source.specs.declared.StateGroup.{StateGroup}
use Rattle.liberty_source.specs.declared.StateGroup.TheVariants as states
use Rattle.liberty_source.specs.Library as source_library
use Rattle.liberty_source.specs.Library.{IsLibrary, is_directed, is_name_if_there, is_part, is_pin, pin_name, state_names}
use Rattle.liberty_tokens.specs.declared.kinds.GroupKind.{GroupKind}
use Rattle.liberty_tokens.specs.declared.kinds.GroupKind.TheVariants as groups
use Rattle.liberty_tokens.specs.declared.kinds.AttributeKind.{AttributeKind}
use Rattle.liberty_tokens.specs.declared.kinds.AttributeKind.TheVariants as attributes
use Rattle.liberty_tokens.specs.Names.{columns, content, is_string}
use Rattle.liberty_tokens.specs.Looks.{text}
use Rattle.liberty_statements.specs.declared.statements.Attribute.{Attribute}
use Rattle.liberty_statements.specs.declared.statements.CellText.{CellText}
use Rattle.liberty_statements.specs.declared.statements.Group.{Group}
use Rattle.liberty_statements.specs.declared.statements.Statements.{Statements}
use Rattle.liberty_statements.specs.Actions.{column_strings, has_long_column, has_long_row, has_long_variable, is_long, is_long_row, is_long_variable, value_text}
use Rattle.liberty_statements.proofs.Keeping.{IsKept, IsNamed, cell_name, group_names, has_long_name, is_kept_attribute, is_kept_cell, is_kept_group, names_of}
use Rattle.liberty_reader.specs.declared.cell.Construct.{Construct}
use Rattle.liberty_reader.specs.declared.cell.Slots.{Slots}
use Rattle.liberty_reader.specs.Cells.{are_strings, are_variables, at_value, at_word, bad_arg, bad_column, cell_part, direction_of, earlier, first_refused, group_pins, group_refuses, group_state, is_absent, is_power, is_state, kind_of, last_of, library, library_name, or_first, part, pin, pin_direction, pins, pins_of, put, refuses, refuses_direction, refuses_node, refuses_second, refuses_state, shown_value, slots_from, stands_before, state, state_of_two, supply, supply_kind, word_of}

-- ---- nothing is refused

neither : (a b : Option Construct) → earlier a b ≡ None → (a ≡ None) × (b ≡ None)
neither None b h = (refl, h)
neither (Some x) None h = cc h
neither (Some x) (Some y) h = go (stands_before y x) h
  where
    go : (g : Bool) → (if g then Some y else Some x) ≡ None → (Some x ≡ None) × (Some y ≡ None)
    go true k = cc k
    go false k = cc k

both_none : (a b : Option Construct) → or_first a b ≡ None → (a ≡ None) × (b ≡ None)
both_none None b h = (refl, h)
both_none (Some x) b h = cc h

passed : {X : Type 0} (b : Bool) (o : Option X) (x : X) → (if b then o else Some x) ≡ None → (b ≡ true) × (o ≡ None)
passed true o x h = (refl, h)
passed false o x h = cc h

not_some : {X : Type 0} (b : Bool) (x : X) → (if b then Some x else None) ≡ None → b ≡ false
not_some true x h = cc h
not_some false x h = refl

second_none : (b : Bool) (t : Token) (o : Option Construct) → refuses_second b t o ≡ None → o ≡ None
second_none true t o h = cc h
second_none false t o h = h

not_false : (b : Bool) → not b ≡ true → b ≡ false
not_false true h = cc h
not_false false h = refl

some_false : (a b : Bool) → (if a then true else b) ≡ false → (a ≡ false) × (b ≡ false)
some_false true b h = cc h
some_false false b h = (refl, h)

module _ (source : List ℕ) (limits : Limits) where
  -- ---- names

  arg_within : (t : Token) → is_name (content source t) ≡ true → is_long_variable source limits t ≡ false → is_name_within limits (content source t) ≡ true
  unfolding is_long_variable
  arg_within t h k = name_within limits (content source t) h k

  first_arg : (t : Token) (ts : List Token) → has_long_variable source limits (t ∷ ts) ≡ false → (is_long_variable source limits t ≡ false) × (has_long_variable source limits ts ≡ false)
  first_arg t ts h = some_false _ _ h

  word_shown : (t : Token) → is_shown (word_of source t) ≡ true
  unfolding word_of
  word_shown t = go (is_string t.kind)
    where
      go : (b : Bool) → is_shown (if b then shown_string (content source t) else shown_word (text source t)) ≡ true
      go true = shown_string-shown (content source t)
      go false = shown_word-shown (text source t)

  -- ---- pins

  directed_by : (i o n : Bool) → is_absent (if i then directions.Input else if o then directions.Output else if n then directions.Internal else directions.Absent) ≡ false
      → is_directed pin_kinds.Signal (if i then directions.Input else if o then directions.Output else if n then directions.Internal else directions.Absent) ≡ true
  directed_by true o n h = refl
  directed_by false true n h = refl
  directed_by false false true h = refl
  directed_by false false false h = cc h

  pin_directed : (word : Token) (a : Option Attribute) → refuses_direction source word a ≡ None → is_directed pin_kinds.Signal (pin_direction source a) ≡ true
  pin_directed word None h = cc h
  pin_directed word (Some a) h =
      let v : List ℕ = value_text source a.value in
      directed_by (bytes_eq v (codes "input")) (bytes_eq v (codes "output")) (bytes_eq v (codes "internal")) (not_some _ _ h)

  supply_directed : (a : Option Attribute) → is_directed (supply_kind source a) directions.Absent ≡ true
  supply_directed None = refl
  supply_directed (Some a) = go (is_power (value_text source a.value))
    where
      go : (b : Bool) → is_directed (if b then pin_kinds.Power else pin_kinds.Ground) directions.Absent ≡ true
      go true = refl
      go false = refl

  abbrev IsShort : Option Attribute → Type 0
  IsShort None = Unit {0}
  IsShort (Some a) = is_long source limits a.value ≡ false

  put_short : (k : AttributeKind) (a : Attribute) (s : Slots) → a.kind ≡ k → is_kept_attribute source limits groups.Pin a ≡ true → IsShort s.internal_node → IsShort (put k a s).internal_node
  put_short attributes.InternalNode a s e h k = not_false _ (rw e at h)
  put_short _ a s e h k = k

  slots_short : (xs : List Attribute) (s : Slots) → list_all (is_kept_attribute source limits groups.Pin) xs ≡ true → IsShort s.internal_node → IsShort (slots_from xs s).internal_node
  slots_short [] s h k = k
  slots_short (a ∷ xs) s h k =
      let parts : (is_kept_attribute source limits groups.Pin a ≡ true) × (list_all (is_kept_attribute source limits groups.Pin) xs ≡ true) = both_true _ _ h in
      slots_short xs (put a.kind a s) parts.1 (put_short a.kind a s refl parts.0 k)

  last_short : (xs : List Attribute) → list_all (is_kept_attribute source limits groups.Pin) xs ≡ true → IsShort (last_of xs).internal_node
  unfolding last_of
  last_short xs h = slots_short xs _ h tt

  node_named : (a : Option Attribute) → refuses_node source a ≡ None → IsShort a → is_name_if_there limits (shown_value source a) ≡ true
  unfolding is_long
  node_named None h k = refl
  node_named (Some a) h k = name_within limits (value_text source a.value) (passed _ _ _ h).0 k

  -- pins that are read of these arguments
  abbrev ArePins : List LibertyPin → List Token → Type 0
  ArePins ps ts = (list_all (is_pin limits) ps ≡ true) × (map pin_name ps ≡ filter is_name (map (content source) ts))

  signals : (word : Token) (s : Slots) (ts : List Token) → refuses_direction source word s.direction ≡ None → is_name_if_there limits (shown_value source s.internal_node) ≡ true → bad_arg source ts ≡ None
      → has_long_variable source limits ts ≡ false → ArePins (map (pin source s) ts) ts
  unfolding pin
  signals word s [] d n h k = (refl, refl)
  signals word s (t ∷ ts) d n h k =
      let good = passed _ _ _ h in
      let short = first_arg t ts k in
      let rest = signals word s ts d n good.1 short.1 in
      let name : is_name_within limits (content source t) ≡ true = arg_within t good.0 short.0 in
      let direction : is_directed pin_kinds.Signal (pin_direction source s.direction) ≡ true = pin_directed word s.direction d in
      (rw (name, direction, n, rest.0) refl, rw good.0 (ap (λ (z : List (List ℕ)). content source t ∷ z) rest.1))

  supplies : (s : Slots) (ts : List Token) → bad_arg source ts ≡ None → has_long_variable source limits ts ≡ false → ArePins (map (supply source s) ts) ts
  unfolding supply
  supplies s [] h k = (refl, refl)
  supplies s (t ∷ ts) h k =
      let good = passed _ _ _ h in
      let short = first_arg t ts k in
      let rest = supplies s ts good.1 short.1 in
      let name : is_name_within limits (content source t) ≡ true = arg_within t good.0 short.0 in
      let direction : is_directed (supply_kind source s.pg_type) directions.Absent ≡ true = supply_directed s.pg_type in
      (rw (name, direction, rest.0) refl, rw good.0 (ap (λ (z : List (List ℕ)). content source t ∷ z) rest.1))

  -- ---- states

  abbrev AreNamed : List (List ℕ) → Type 0
  AreNamed names = list_all (is_name_within limits) names ≡ true

  named_columns : (cs : List (List ℕ)) → list_all is_name cs ≡ true → list_any (λ c. is_too_long limits c) cs ≡ false → AreNamed cs
  named_columns [] h k = refl
  named_columns (c ∷ cs) h k =
      let good : (is_name c ≡ true) × (list_all is_name cs ≡ true) = both_true _ _ h in
      let short : (is_too_long limits c ≡ false) × (list_any (λ c. is_too_long limits c) cs ≡ false) = neither_true _ _ k in
      let name : is_name_within limits c ≡ true = name_within limits c good.0 short.0 in
      let rest : list_all (is_name_within limits) cs ≡ true = named_columns cs good.1 short.1 in
      rw (name, rest) refl

  row_columns : (t : Token) → list_all is_name (columns (content source t)) ≡ true → is_long_row source limits t ≡ false → AreNamed (columns (content source t))
  unfolding is_long_row
  row_columns t h k = named_columns (columns (content source t)) h k

  variables : (a b : Token) → are_variables source (a ∷ b ∷ []) ≡ true → has_long_variable source limits (a ∷ b ∷ []) ≡ false → AreNamed (content source a ∷ content source b ∷ [])
  variables a b h k =
      let first : (is_name (content source a) ≡ true) × ((is_name (content source b) && true) ≡ true) = both_true (is_name (content source a)) (is_name (content source b) && true) h in
      let second : is_name (content source b) ≡ true = (both_true (is_name (content source b)) true first.1).0 in
      let short = first_arg a (b ∷ []) k in
      let one : is_name_within limits (content source a) ≡ true = arg_within a first.0 short.0 in
      let two : is_name_within limits (content source b) ≡ true = arg_within b second (first_arg b [] short.1).0 in
      rw (one, two) refl

  two_strings : (a b : Token) → are_strings (a ∷ b ∷ []) ≡ true → column_strings (a ∷ b ∷ []) ≡ a ∷ b ∷ []
  unfolding column_strings
  two_strings a b h =
      let first : (is_string a.kind ≡ true) × ((is_string b.kind && true) ≡ true) = both_true (is_string a.kind) (is_string b.kind && true) h in
      let second : is_string b.kind ≡ true = (both_true (is_string b.kind) true first.1).0 in
      rw (first.0, second) refl

  table_columns : (a b : Token) → are_strings (a ∷ b ∷ []) ≡ true → bad_column source (a ∷ b ∷ []) ≡ None → has_long_row source limits (column_strings (a ∷ b ∷ [])) ≡ false
      → AreNamed (columns (content source a) ++ columns (content source b))
  table_columns a b s h k =
      let both : has_long_row source limits (a ∷ b ∷ []) ≡ false = ap (has_long_row source limits) (sym (two_strings a b s)) ∙ k in
      let short : (is_long_row source limits a ≡ false) × (has_long_row source limits (b ∷ []) ≡ false) = some_false _ _ both in
      let second : is_long_row source limits b ≡ false = (some_false _ _ short.1).0 in
      let good = passed _ _ _ h in
      let one : list_all (is_name_within limits) (columns (content source a)) ≡ true = row_columns a good.0 short.0 in
      let two : list_all (is_name_within limits) (columns (content source b)) ≡ true = row_columns b (passed _ _ _ good.1).0 second in
      list_all-append (is_name_within limits) (columns (content source a)) (columns (content source b)) ∙ rw (one, two) refl

  -- ---- groups

  -- what a group that isn't refused adds
  record IsRead (g : Group) : Type 0 where
    pins : list_all (is_pin limits) (pins_of source g) ≡ true
    names : map pin_name (pins_of source g) ≡ group_names source limits g.kind g.args
    state : (before : StateGroup) → AreNamed (state_names before) → AreNamed (state_names (group_state source g g.args before))

  -- a group of two arguments may be the state
  state_read : (g : Group) (args : List Token) (before : StateGroup) → ((a b : Token) → args ≡ a ∷ b ∷ [] → AreNamed (state_names (state_of_two source g a b before))) → AreNamed (state_names before)
      → AreNamed (state_names (group_state source g args before))
  unfolding group_state
  state_read g [] before f h = h
  state_read g (a ∷ []) before f h = h
  state_read g (a ∷ b ∷ []) before f h = f a b refl
  state_read g (a ∷ b ∷ c ∷ cs) before f h = h

  read_by : (kind : GroupKind) (word : Token) (args : List Token) (attrs : List Attribute) (second : Bool) → refuses source second kind word args (last_of attrs) ≡ None
      → is_kept_group source limits (record { kind = kind; word = word; args = args; attributes = attrs }) ≡ true → IsRead (record { kind = kind; word = word; args = args; attributes = attrs })
  unfolding refuses
  read_by groups.Pin word args attrs second h k =
      let first = neither _ _ h in
      let others = neither _ _ first.1 in
      let kept : (not (has_long_variable source limits args) ≡ true) × (list_all (is_kept_attribute source limits groups.Pin) attrs ≡ true) = both_true _ _ k in
      let node = node_named (last_of attrs).internal_node (neither _ _ others.1).0 (last_short attrs kept.1) in
      let all = signals word (last_of attrs) args others.0 node first.0 (not_false _ kept.0) in
      record { pins = all.0; names = all.1; state = λ before n. state_read _ args before (λ a b e. n) n }
  read_by groups.PgPin word args attrs second h k =
      let first = neither _ _ h in
      let kept : (not (has_long_variable source limits args) ≡ true) × (list_all (is_kept_attribute source limits groups.PgPin) attrs ≡ true) = both_true _ _ k in
      let all = supplies (last_of attrs) args first.0 (not_false _ kept.0) in
      record { pins = all.0; names = all.1; state = λ before n. state_read _ args before (λ a b e. n) n }
  read_by groups.Ff word args attrs second h k =
      let good = passed _ _ _ (second_none second word _ h) in
      let are : are_variables source args ≡ true = good.0 in
      let kept : (not (has_long_variable source limits args) ≡ true) × (list_all (is_kept_attribute source limits groups.Ff) attrs ≡ true) = both_true _ _ k in
      let short : has_long_variable source limits args ≡ false = not_false _ kept.0 in
      record { pins = refl; names = refl; state = λ before n. state_read _ args before (λ a b e. variables a b (rw e at are) (rw e at short)) n }
  read_by groups.Latch word args attrs second h k =
      let good = passed _ _ _ (second_none second word _ h) in
      let are : are_variables source args ≡ true = good.0 in
      let kept : (not (has_long_variable source limits args) ≡ true) × (list_all (is_kept_attribute source limits groups.Latch) attrs ≡ true) = both_true _ _ k in
      let short : has_long_variable source limits args ≡ false = not_false _ kept.0 in
      record { pins = refl; names = refl; state = λ before n. state_read _ args before (λ a b e. variables a b (rw e at are) (rw e at short)) n }
  read_by groups.StateTable word args attrs second h k =
      let good = passed _ _ _ (second_none second word _ h) in
      let are : are_strings args ≡ true = good.0 in
      let named : bad_column source args ≡ None = good.1 in
      let kept : (not (has_long_row source limits (column_strings args)) ≡ true) × (list_all (is_kept_attribute source limits groups.StateTable) attrs ≡ true) = both_true _ _ k in
      let short : has_long_row source limits (column_strings args) ≡ false = not_false _ kept.0 in
      record { pins = refl; names = refl; state = λ before n. state_read _ args before (λ a b e. table_columns a b (rw e at are) (rw e at named) (rw e at short)) n }
  read_by groups.Unread word args attrs second h k = cc h
  read_by groups.Other word args attrs second h k = record { pins = refl; names = refl; state = λ before n. state_read _ args before (λ a b e. n) n }

  -- what the groups of a cell that isn't refused add
  record AreRead (gs : List Group) : Type 0 where
    good : list_all (is_pin limits) (pins source gs) ≡ true
    names : map pin_name (pins source gs) ≡ names_of source limits gs
    named : (before : StateGroup) → AreNamed (state_names before) → AreNamed (state_names (state source gs before))

  groups_read : (gs : List Group) (second : Bool) → first_refused source second gs ≡ None → list_all (is_kept_group source limits) gs ≡ true → AreRead gs
  groups_read [] second h k = record { good = refl; names = refl; named = λ before n. n }
  groups_read (g ∷ gs) second h k =
      let parts = both_none (group_refuses source second g) (first_refused source (second || is_state g.kind) gs) h in
      let kept : (is_kept_group source limits g ≡ true) × (list_all (is_kept_group source limits) gs ≡ true) = both_true _ _ k in
      let one : IsRead g = read_by g.kind g.word g.args g.attributes second parts.0 kept.0 in
      let rest : AreRead gs = groups_read gs (second || is_state g.kind) parts.1 kept.1 in
      let here : list_all (is_pin limits) (pins_of source g) ≡ true = one.pins in
      let there : list_all (is_pin limits) (pins source gs) ≡ true = rest.good in
      record {
        good = list_all-append (is_pin limits) (pins_of source g) (pins source gs) ∙ rw (here, there) refl;
        names = map-append pin_name (pins_of source g) (pins source gs) ∙ ap (λ (z : List (List ℕ)). z ++ map pin_name (pins source gs)) one.names ∙ ap (λ (z : List (List ℕ)). group_names source limits g.kind g.args ++ z) rest.names;
        named = λ before n. rest.named (group_state source g g.args before) (one.state before n);
      }

  -- ---- cells

  cell_read : (c : CellText) → is_kept_cell source limits c ≡ true → is_part limits (cell_part source c) ≡ true
  unfolding cell_part
  cell_read c k = go (first_refused source false c.groups) refl
    where
      go : (o : Option Construct) → first_refused source false c.groups ≡ o → is_part limits (part source c o) ≡ true
      go (Some x) e =
          let both : (is_name_within limits (content source c.name) && list_all (is_kept_group source limits) c.groups ≡ true) × (is_distinct (names_of source limits c.groups) ≡ true) = both_true _ _ k in
          let name : is_name_within limits (content source c.name) ≡ true = (both_true _ _ both.0).0 in
          rw (name, word_shown x.word) refl
      go None e =
          let both : (is_name_within limits (content source c.name) && list_all (is_kept_group source limits) c.groups ≡ true) × (is_distinct (names_of source limits c.groups) ≡ true) = both_true _ _ k in
          let named : (is_name_within limits (content source c.name) ≡ true) × (list_all (is_kept_group source limits) c.groups ≡ true) = both_true _ _ both.0 in
          let all : AreRead c.groups = groups_read c.groups false e named.1 in
          let good : list_all (is_pin limits) (pins source c.groups) ≡ true = all.good in
          let apart : is_distinct (map pin_name (pins source c.groups)) ≡ true = subst (λ (z : List (List ℕ)). is_distinct z ≡ true) (sym all.names) both.1 in
          let known : list_all (is_name_within limits) (state_names (state source c.groups states.Stateless)) ≡ true = all.named states.Stateless refl in
          rw (named.0, good, apart, known) refl

  name_of_cell : (c : CellText) → source_library.cell_name (cell_part source c) ≡ cell_name source limits c
  unfolding cell_part
  name_of_cell c = go (first_refused source false c.groups)
    where
      go : (o : Option Construct) → source_library.cell_name (part source c o) ≡ content source c.name
      go None = refl
      go (Some x) = refl

  cells_read : (cs : List CellText) → list_all (is_kept_cell source limits) cs ≡ true → list_all (is_part limits) (map (cell_part source) cs) ≡ true
  cells_read [] h = refl
  cells_read (c ∷ cs) h =
      let both : (is_kept_cell source limits c ≡ true) × (list_all (is_kept_cell source limits) cs ≡ true) = both_true _ _ h in
      let one : is_part limits (cell_part source c) ≡ true = cell_read c both.0 in
      let rest : list_all (is_part limits) (map (cell_part source) cs) ≡ true = cells_read cs both.1 in
      rw (one, rest) refl

  names_read : (cs : List CellText) → map source_library.cell_name (map (cell_part source) cs) ≡ map (cell_name source limits) cs
  names_read [] = refl
  names_read (c ∷ cs) = ap (λ (z : List ℕ). z ∷ map source_library.cell_name (map (cell_part source) cs)) (name_of_cell c) ∙ ap (λ (z : List (List ℕ)). cell_name source limits c ∷ z) (names_read cs)

  library_named : (o : Option Token) → IsNamed source limits o → is_name_within limits (library_name source o) ≡ true
  library_named None h = absurd h
  library_named (Some t) h = h

  -- a library whose statements are kept well
  pub lawful : (s : Statements) → IsKept source limits s → IsLibrary limits (library source s)
  unfolding library
  lawful s h =
      let number = length-map s.cells (cell_part source) in
      record {
        name = library_named s.name h.name;
        few = omega (arith, h.few, number);
        cells = cells_read s.cells h.cells;
        distinct = subst (λ (z : List (List ℕ)). is_distinct z ≡ true) (sym (names_read s.cells)) h.distinct;
      }
