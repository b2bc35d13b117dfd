-- What the statements of a text keep: names within the limit, and none twice.
use Rattle.std.proofs.Common.{◌≡◌, ◌≤◌, ◌<◌, ◌+◌, ◌-◌, ◌++◌, ℕ, zero, suc, Bool, true, false, List, [], ◌∷◌, length, map, subst, Option, Some, None, Result, Ok, Err, refl, sym, ap, ◌∙◌, append_assoc, arith}
use Rattle.std.specs.Prelude.{◌&&◌, ◌||◌, ◌==◌, not, if◌then◌else◌, nat_le, filter}
use Rattle.std.specs.List.{list_all, list_any}
use Rattle.std.specs.Str.{bytes_eq}
use Rattle.std.proofs.lemmas.Bool.Decides.{nat_tests}
use Rattle.std.proofs.lemmas.List.{append-nil, length-append, map-append}
use Rattle.std.proofs.lemmas.List.Folds.{list_all-append}
use Rattle.text_scan.specs.declared.token.Token.{Token}
use Rattle.text_scan.specs.declared.limits.Limits.{Limits}
use Rattle.name_index.specs.Places.{is_known}
use Rattle.file_rules.specs.Names.{is_distinct, is_name, is_name_within, is_too_long}
use Rattle.file_rules.specs.Kept.{both_true, is_distinct-push, name_within}
use Rattle.grammar.specs.Reading.{◌>>=◌}
use Rattle.liberty_tokens.specs.declared.kinds.GroupKind.{GroupKind}
use Rattle.liberty_tokens.specs.declared.kinds.GroupKind.TheVariants as groups
use Rattle.liberty_tokens.specs.declared.kinds.AttributeKind.{AttributeKind}
use Rattle.liberty_tokens.specs.Looks.{text}
use Rattle.liberty_tokens.specs.Words.{attribute_kind, group_kind, is_cell}
use Rattle.liberty_tokens.specs.Names.{content}
use Rattle.liberty_statements.specs.declared.halt.Refusal.{Refusal}
use Rattle.liberty_statements.specs.declared.halt.Refusal.TheVariants as refusals
use Rattle.liberty_statements.specs.declared.statements.Attribute.{Attribute}
use Rattle.liberty_statements.specs.declared.statements.CellText.{CellText}
use Rattle.liberty_statements.specs.declared.statements.Group.{Group}
use Rattle.liberty_statements.specs.declared.statements.Level.{Level}
use Rattle.liberty_statements.specs.declared.statements.Level.TheVariants as levels
use Rattle.liberty_statements.specs.declared.statements.Statements.{Statements}
use Rattle.liberty_statements.specs.declared.statements.Value.{Value}
use Rattle.liberty_statements.specs.Actions.{Outcome, add_arg, add_names, add_pin_name, add_pin_names, add_value, begin_statement, column_strings, enter, enter_cell, enter_group, enter_in_library, enter_level, enter_named_cell, enter_read_group, entered, grown, has_long_row, has_long_variable, is_group, is_internal_node, is_long, is_long_variable, is_other, is_outer, is_pin, is_refused, keep_value, leave_level, left_group, name_library, nested, open_cell, open_group, open_library, pass, reads_node, settle, settle_value, settled, too_long, unless_long}

-- ---- tests, and steps that passed

bind_ok : {A B X : Type 0} (r : Result A X) (f : A → Result B X) (y : B) → (r >>= f) ≡ Ok y → (x : A) × (r ≡ Ok x) × (f x ≡ Ok y)
bind_ok (Ok x) f y h = (x, refl, h)
bind_ok (Err e) f y h = cc h

not_err : {A X : Type 0} (b : Bool) (e : X) (r : Result A X) (y : A) → (if b then Err e else r) ≡ Ok y → (b ≡ false) × (r ≡ Ok y)
not_err true e r y h = cc h
not_err false e r y h = (refl, h)

or_err : {A X : Type 0} (b : Bool) (e : X) (r : Result A X) (y : A) → (if b then r else Err e) ≡ Ok y → (b ≡ true) × (r ≡ Ok y)
or_err true e r y h = (refl, h)
or_err false e r y h = cc h

both_all : {X : Type 0} (p : X → Bool) (xs : List X) (x : X) → list_all p xs ≡ true → p x ≡ true → list_all p (xs ++ x ∷ []) ≡ true
both_all p xs x h k = list_all-append p xs (x ∷ []) ∙ rw (h, k) refl

refused_test : (b : Bool) → b ≡ false → not b ≡ true
refused_test b h = rw h refl

not_or : (a b : Bool) → not (a || b) ≡ true → (a ≡ false) × (not b ≡ true)
not_or true b h = cc h
not_or false b h = (refl, h)

none_first : (p : List ℕ → Bool) (xs ys : List (List ℕ)) → not (list_any p (xs ++ ys)) ≡ true → list_any p xs ≡ false
none_first p [] ys h = refl
none_first p (x ∷ xs) ys h =
    let parts = not_or (p x) (list_any p (xs ++ ys)) h in
    let rest : list_any p xs ≡ false = none_first p xs ys parts.1 in
    rw (parts.0, rest) refl

-- those before the last ones are apart where all are
is_distinct-first : (xs ys : List (List ℕ)) → is_distinct (xs ++ ys) ≡ true → is_distinct xs ≡ true
is_distinct-first [] ys h = refl
is_distinct-first (x ∷ xs) ys h =
    let parts : (not (list_any (bytes_eq x) (xs ++ ys)) ≡ true) × (is_distinct (xs ++ ys) ≡ true) = both_true _ _ h in
    let rest : is_distinct xs ≡ true = is_distinct-first xs ys parts.1 in
    let apart : list_any (bytes_eq x) xs ≡ false = none_first (bytes_eq x) xs ys parts.0 in
    rw (apart, rest) refl

module _ (source : List ℕ) (limits : Limits) where
  -- ---- what is kept

  -- a name among the arguments of a group is too long
  abbrev pub has_long_name : GroupKind → List Token → Bool
  has_long_name groups.Pin ts = has_long_variable source limits ts
  has_long_name groups.PgPin ts = has_long_variable source limits ts
  has_long_name groups.Ff ts = has_long_variable source limits ts
  has_long_name groups.Latch ts = has_long_variable source limits ts
  has_long_name groups.StateTable ts = has_long_row source limits (column_strings ts)
  has_long_name groups.Unread ts = false
  has_long_name groups.Other ts = false

  -- the name of a node isn't too long
  abbrev pub is_kept_attribute : GroupKind → Attribute → Bool
  is_kept_attribute kind a = if is_pin kind && is_internal_node a.kind then not (is_long source limits a.value) else true

  abbrev pub is_kept_group : Group → Bool
  is_kept_group g = not (has_long_name g.kind g.args) && list_all (is_kept_attribute g.kind) g.attributes

  -- the names of the pins and supplies of a group, and of some
  abbrev pub group_names : GroupKind → List Token → List (List ℕ)
  group_names groups.Pin ts = filter is_name (map (content source) ts)
  group_names groups.PgPin ts = filter is_name (map (content source) ts)
  group_names groups.Ff ts = []
  group_names groups.Latch ts = []
  group_names groups.StateTable ts = []
  group_names groups.Unread ts = []
  group_names groups.Other ts = []

  abbrev pub names_of : List Group → List (List ℕ)
  names_of [] = []
  names_of (g ∷ gs) = group_names g.kind g.args ++ names_of gs

  names_of-push : (gs : List Group) (g : Group) → names_of (gs ++ g ∷ []) ≡ names_of gs ++ group_names g.kind g.args
  names_of-push [] g = append-nil (group_names g.kind g.args)
  names_of-push (h ∷ gs) g = ap (λ (z : List (List ℕ)). group_names h.kind h.args ++ z) (names_of-push gs g) ∙ sym (append_assoc (group_names h.kind h.args) (names_of gs) (group_names g.kind g.args))

  abbrev pub is_kept_cell : CellText → Bool
  is_kept_cell c = is_name_within limits (content source c.name) && list_all is_kept_group c.groups && is_distinct (names_of c.groups)

  abbrev pub cell_name : CellText → List ℕ
  cell_name c = content source c.name

  abbrev pub IsNamed : Option Token → Type 0
  IsNamed None = ⊥
  IsNamed (Some t) = is_name_within limits (content source t) ≡ true

  pub record IsKept (s : Statements) : Type 0 where
    pub name : IsNamed s.name
    pub few : length s.cells ≤ limits.cells
    pub cells : list_all is_kept_cell s.cells ≡ true
    pub distinct : is_distinct (map cell_name s.cells) ≡ true

  -- ---- what holds at each moment, of the cells, of the open cell and of the open group in it

  pub record Core : Type 0 where
    pub cells : List CellText
    pub names : List (List ℕ)
    pub level : Level
    pub cell : Token
    pub groups : List Group
    pub pins : List (List ℕ)
    pub kind : GroupKind
    pub args : List Token
    pub attributes : List Attribute

  abbrev pub core : Statements → Core
  core s = record {
    cells = s.cells;
    names = s.cell_names;
    level = s.level;
    cell = s.cell_name;
    groups = s.groups;
    pins = s.pin_names;
    kind = s.group_kind;
    args = s.group_args;
    attributes = s.attributes;
  }

  pub record InLibrary (c : Core) : Type 0 where
    pub few : length c.cells ≤ limits.cells
    pub names : c.names ≡ map cell_name c.cells
    pub groups : c.groups ≡ []
    pub pins : c.pins ≡ []
    pub attributes : c.attributes ≡ []

  pub record InCell (c : Core) : Type 0 where
    pub few : length c.cells < limits.cells
    pub names : c.names ≡ map cell_name c.cells ++ content source c.cell ∷ []
    pub name : is_name_within limits (content source c.cell) ≡ true
    pub groups : list_all is_kept_group c.groups ≡ true
    pub pins : c.pins ≡ names_of c.groups
    pub apart : is_distinct c.pins ≡ true
    pub attributes : c.attributes ≡ []

  pub record InGroup (c : Core) : Type 0 where
    pub few : length c.cells < limits.cells
    pub names : c.names ≡ map cell_name c.cells ++ content source c.cell ∷ []
    pub name : is_name_within limits (content source c.cell) ≡ true
    pub groups : list_all is_kept_group c.groups ≡ true
    pub pins : c.pins ≡ names_of c.groups ++ group_names c.kind c.args
    pub apart : is_distinct c.pins ≡ true
    pub short : has_long_name c.kind c.args ≡ false
    pub attributes : list_all (is_kept_attribute c.kind) c.attributes ≡ true

  abbrev pub At : Level → Core → Type 0
  At levels.Library c = InLibrary c
  At levels.Cell c = InCell c
  At levels.Group c = InGroup c

  pub record Keeps (c : Core) : Type 0 where
    pub cells : list_all is_kept_cell c.cells ≡ true
    pub distinct : is_distinct c.names ≡ true
    pub at : At c.level c

  -- a value so far, which may be that of a node
  abbrev pub IsShort : Option Value → Statements → Type 0
  IsShort None s = Unit {0}
  IsShort (Some v) s = reads_node source s ≡ true → is_long source limits v ≡ false

  -- before the library's name, between two parts of a statement, and in a value
  pub record Begun (s : Statements) : Type 0 where
    pub keeps : Keeps (core s)
    pub none : s.value ≡ None

  pub record Body (s : Statements) : Type 0 where
    pub keeps : Keeps (core s)
    pub none : s.value ≡ None
    pub named : IsNamed s.name

  pub record Valued (s : Statements) : Type 0 where
    pub keeps : Keeps (core s)
    pub short : IsShort s.value s
    pub named : IsNamed s.name

  pub valued : (s : Statements) → Body s → Valued s
  valued s h = record { keeps = h.keeps; short = let none = h.none in subst (λ (o : Option Value). IsShort o s) (sym none) tt; named = h.named }

  -- ---- values

  pub value_added : (t : Token) (s n : Statements) → Valued s → add_value source limits t s ≡ Ok n → Valued n
  unfolding add_value is_refused reads_node
  value_added t s n h e =
      let fine = not_err _ _ _ n e in
      let same : record s { value = Some (grown t s.value) } ≡ n = cc (fine.1) in
      subst Valued same (record { keeps = h.keeps; short = λ r. read (reads_node source s) r fine.0; named = h.named })
    where
      read : (b : Bool) → b ≡ true → (if b then is_long source limits (grown t s.value) else false) ≡ false → is_long source limits (grown t s.value) ≡ false
      read true r k = k
      read false r k = cc r

  group_at : (l : Level) (c : Core) → is_group l ≡ true → At l c → InGroup c
  group_at levels.Library c e h = cc e
  group_at levels.Cell c e h = cc e
  group_at levels.Group c e h = h

  attribute_kept : (kind : GroupKind) (a : Attribute) → (is_pin kind ≡ true → is_internal_node a.kind ≡ true → is_long source limits a.value ≡ false) → is_kept_attribute kind a ≡ true
  attribute_kept kind a h = go (is_pin kind) (is_internal_node a.kind) refl refl
    where
      go : (p q : Bool) → is_pin kind ≡ p → is_internal_node a.kind ≡ q → (if p && q then not (is_long source limits a.value) else true) ≡ true
      go true true e f = refused_test _ (h e f)
      go true false e f = refl
      go false q e f = refl

  with_attribute : (l : Level) (c : Core) (a : Attribute) → InGroup c → is_kept_attribute c.kind a ≡ true → l ≡ levels.Group → At l (record c { attributes = c.attributes ++ a ∷ [] })
  with_attribute levels.Library c a h k e = cc e
  with_attribute levels.Cell c a h k e = cc e
  with_attribute levels.Group c a h k e = record {
    few = h.few;
    names = h.names;
    name = h.name;
    groups = h.groups;
    pins = h.pins;
    apart = h.apart;
    short = h.short;
    attributes = both_all (is_kept_attribute c.kind) c.attributes a h.attributes k;
  }

  is_level : (l : Level) → is_group l ≡ true → l ≡ levels.Group
  is_level levels.Library e = cc e
  is_level levels.Cell e = cc e
  is_level levels.Group e = refl

  reads_so : (s : Statements) → (s.passed == 0 && is_group s.level) ≡ true → is_pin s.group_kind ≡ true → is_internal_node (attribute_kind (text source s.word)) ≡ true → reads_node source s ≡ true
  unfolding reads_node
  reads_so s h p q = let parts : ((s.passed == 0) ≡ true) × (is_group s.level ≡ true) = both_true _ _ h in rw (parts.0, parts.1, p, q) refl

  abbrev attribute_of : Statements → Value → Attribute
  attribute_of s v = record { kind = attribute_kind (text source s.word); word = s.word; value = v }

  attribute_added : (s : Statements) (v : Value) → (s.passed == 0 && is_group s.level) ≡ true → s.value ≡ Some v → Valued s → Body (record s { value = None; attributes = s.attributes ++ attribute_of s v ∷ [] })
  attribute_added s v c e h =
      let parts : ((s.passed == 0) ≡ true) × (is_group s.level ≡ true) = both_true _ _ c in
      let in_group : InGroup (core s) = group_at s.level (core s) parts.1 h.keeps.at in
      let short : IsShort (Some v) s = subst (λ (o : Option Value). IsShort o s) e h.short in
      let good : is_kept_attribute s.group_kind (attribute_of s v) ≡ true = attribute_kept s.group_kind (attribute_of s v) (λ p q. short (reads_so s c p q)) in
      record {
        keeps = record {
          cells = h.keeps.cells;
          distinct = h.keeps.distinct;
          at = with_attribute s.level (core s) (attribute_of s v) in_group good (is_level s.level parts.1);
        };
        none = refl;
        named = h.named;
      }

  value_kept : (b : Bool) (s : Statements) (v : Value) → (s.passed == 0 && is_group s.level) ≡ b → s.value ≡ Some v → Valued s → Body (keep_value b (attribute_kind (text source s.word)) v s)
  unfolding keep_value
  value_kept false s v c e h = record { keeps = h.keeps; none = refl; named = h.named }
  value_kept true s v c e h = go (is_other (attribute_kind (text source s.word)))
    where
      go : (o : Bool) → Body (if true && (if o then false else true) then record s { value = None; attributes = s.attributes ++ attribute_of s v ∷ [] } else record s { value = None })
      go true = record { keeps = h.keeps; none = refl; named = h.named }
      go false = attribute_added s v c e h

  pub value_settled : (s : Statements) → Valued s → Body (settled source s)
  unfolding settled
  value_settled s h = go s.value refl
    where
      go : (o : Option Value) → s.value ≡ o → Body (settle_value source o s)
      go None e = record { keeps = h.keeps; none = e; named = h.named }
      go (Some v) e = value_kept _ s v refl e h

  -- ---- groups end

  cell_left : (s : Statements) → InCell (core s) → list_all is_kept_cell s.cells ≡ true → is_distinct s.cell_names ≡ true → Keeps (core (leave_level levels.Cell s))
  cell_left s h k d =
      let apart : is_distinct (names_of s.groups) ≡ true = subst (λ (z : List (List ℕ)). is_distinct z ≡ true) h.pins h.apart in
      let more = length-append s.cells (record { word = s.cell_word; name = s.cell_name; groups = s.groups } ∷ []) in
      record {
        cells = both_all is_kept_cell s.cells (record { word = s.cell_word; name = s.cell_name; groups = s.groups }) k (rw (h.name, h.groups, apart) refl);
        distinct = d;
        at = record {
          few = omega (arith, h.few, more);
          names = h.names ∙ sym (map-append cell_name s.cells (record { word = s.cell_word; name = s.cell_name; groups = s.groups } ∷ []));
          groups = refl;
          pins = refl;
          attributes = h.attributes;
        };
      }

  group_left : (s : Statements) → InGroup (core s) → list_all is_kept_cell s.cells ≡ true → is_distinct s.cell_names ≡ true → Keeps (core (leave_level levels.Group s))
  group_left s h k d = record {
    cells = k;
    distinct = d;
    at = record {
      few = h.few;
      names = h.names;
      name = h.name;
      groups = both_all is_kept_group s.groups (record { kind = s.group_kind; word = s.group_word; args = s.group_args; attributes = s.attributes }) h.groups (rw (h.short, h.attributes) refl);
      pins = h.pins ∙ sym (names_of-push s.groups (record { kind = s.group_kind; word = s.group_word; args = s.group_args; attributes = s.attributes }));
      apart = h.apart;
      attributes = refl;
    };
  }

  level_left : (l : Level) (s : Statements) → s.level ≡ l → Body s → Body (leave_level l s)
  level_left levels.Library s e h = h
  level_left levels.Cell s e h = record { keeps = cell_left s (subst (λ (l : Level). At l (core s)) e h.keeps.at) h.keeps.cells h.keeps.distinct; none = h.none; named = h.named }
  level_left levels.Group s e h = record { keeps = group_left s (subst (λ (l : Level). At l (core s)) e h.keeps.at) h.keeps.cells h.keeps.distinct; none = h.none; named = h.named }

  pub group_ended : (s : Statements) → Body s → Body (left_group s)
  unfolding left_group
  group_ended s h = go (s.passed == 0)
    where
      go : (b : Bool) → Body (if b then leave_level s.level s else record s { passed = s.passed - 1 })
      go true = level_left s.level s refl h
      go false = record { keeps = h.keeps; none = h.none; named = h.named }

  -- ---- groups begin

  abbrev Passes : Statements → Statements → Type 0
  Passes s n = let passed : Outcome = Ok (pass s) in let next : Outcome = Ok n in passed ≡ next

  passed_on : (s n : Statements) → Body s → Passes s n → Body n
  unfolding pass
  passed_on s n h e = let same : record s { passed = s.passed + 1 } ≡ n = cc e in subst Body same (record { keeps = h.keeps; none = h.none; named = h.named })

  pin_added : (t : Token) (names new : List (List ℕ)) → is_distinct names ≡ true → add_pin_name source limits t names ≡ Ok new
      → (is_long_variable source limits t ≡ false) × (new ≡ names ++ filter is_name (content source t ∷ [])) × (is_distinct new ≡ true)
  unfolding add_pin_name is_long_variable
  pin_added t names new d e =
      let fine = not_err _ _ _ new e in
      let rest = go (is_name (content source t)) fine.1 in
      (fine.0, rest.0, rest.1)
    where
      go : (b : Bool) → (if b then (if is_known (content source t) names then Err (refusals.DoubleName t) else Ok (names ++ content source t ∷ [])) else Ok names) ≡ Ok new
          → (new ≡ names ++ (if b then content source t ∷ [] else [])) × (is_distinct new ≡ true)
      go true k =
          let fresh = not_err _ _ _ new k in
          let same : names ++ content source t ∷ [] ≡ new = cc (fresh.1) in
          (sym same, subst (λ (z : List (List ℕ)). is_distinct z ≡ true) same (is_distinct-push names (content source t) d fresh.0))
      go false k =
          let same : names ≡ new = cc k in
          (sym same ∙ sym (append-nil names), subst (λ (z : List (List ℕ)). is_distinct z ≡ true) same d)

  pins_added : (ts : List Token) (names new : List (List ℕ)) → is_distinct names ≡ true → add_pin_names source limits ts names ≡ Ok new
      → (has_long_variable source limits ts ≡ false) × (new ≡ names ++ filter is_name (map (content source) ts)) × (is_distinct new ≡ true)
  pins_added [] names new d e =
      let same : names ≡ new = cc e in
      (refl, sym same ∙ sym (append-nil names), subst (λ (z : List (List ℕ)). is_distinct z ≡ true) same d)
  pins_added (t ∷ ts) names new d e =
      let step = bind_ok (add_pin_name source limits t names) (add_pin_names source limits ts) new e in
      let first = pin_added t names step.0 d step.1 in
      let rest = pins_added ts step.0 new first.2 step.2 in
      (rw (first.0, rest.0) refl, rest.1 ∙ ap (λ (z : List (List ℕ)). z ++ filter is_name (map (content source) ts)) first.1 ∙ joined (is_name (content source t)), rest.2)
    where
      joined : (b : Bool) → (names ++ (if b then content source t ∷ [] else [])) ++ filter is_name (map (content source) ts)
          ≡ names ++ (if b then content source t ∷ filter is_name (map (content source) ts) else filter is_name (map (content source) ts))
      joined true = append_assoc names (content source t ∷ []) (filter is_name (map (content source) ts))
      joined false = append_assoc names [] (filter is_name (map (content source) ts))

  unless_ok : (b : Bool) (names new : List (List ℕ)) → unless_long b names ≡ Ok new → (b ≡ false) × (new ≡ names ++ [])
  unfolding unless_long
  unless_ok true names new e = cc e
  unless_ok false names new e = let same : names ≡ new = cc e in (refl, sym same ∙ sym (append-nil names))

  -- what the names of a group add
  abbrev Adds : GroupKind → List Token → List (List ℕ) → List (List ℕ) → Type 0
  Adds kind ts names new = (has_long_name kind ts ≡ false) × (new ≡ names ++ group_names kind ts) × (is_distinct new ≡ true)

  nothing_added : (names new : List (List ℕ)) → is_distinct names ≡ true → new ≡ names ++ [] → is_distinct new ≡ true
  nothing_added names new d e = subst (λ (z : List (List ℕ)). is_distinct z ≡ true) (sym (e ∙ append-nil names)) d

  names_added : (kind : GroupKind) (ts : List Token) (names new : List (List ℕ)) → is_distinct names ≡ true → add_names source limits kind ts names ≡ Ok new → Adds kind ts names new
  unfolding add_names
  names_added groups.Pin ts names new d e = pins_added ts names new d e
  names_added groups.PgPin ts names new d e = pins_added ts names new d e
  names_added groups.Ff ts names new d e = let k = unless_ok _ names new e in (k.0, k.1, nothing_added names new d k.1)
  names_added groups.Latch ts names new d e = let k = unless_ok _ names new e in (k.0, k.1, nothing_added names new d k.1)
  names_added groups.StateTable ts names new d e = let k = unless_ok _ names new e in (k.0, k.1, nothing_added names new d k.1)
  names_added groups.Unread ts names new d e =
      let same : names ≡ new = cc e in
      let more : new ≡ names ++ [] = sym same ∙ sym (append-nil names) in
      (refl, more, nothing_added names new d more)
  names_added groups.Other ts names new d e =
      let same : names ≡ new = cc e in
      let more : new ≡ names ++ [] = sym same ∙ sym (append-nil names) in
      (refl, more, nothing_added names new d more)

  group_opened : (kind : GroupKind) (s n : Statements) → Body s → InCell (core s) → enter_read_group source limits kind s ≡ Ok n → Body n
  unfolding enter_read_group open_group
  group_opened kind s n h c e =
      let step = bind_ok (add_names source limits kind s.args s.pin_names) (λ names. Ok (open_group kind s names)) n e in
      let new = names_added kind s.args s.pin_names step.0 c.apart step.1 in
      let same : open_group kind s step.0 ≡ n = cc (step.2) in
      let attributes : list_all (is_kept_attribute kind) s.attributes ≡ true = let none = c.attributes in rw none refl in
      subst Body same (record {
        keeps = record {
          cells = h.keeps.cells;
          distinct = h.keeps.distinct;
          at = record {
            few = c.few;
            names = c.names;
            name = c.name;
            groups = c.groups;
            pins = new.1 ∙ ap (λ (z : List (List ℕ)). z ++ group_names kind s.args) c.pins;
            apart = new.2;
            short = new.0;
            attributes = attributes;
          };
        };
        none = h.none;
        named = h.named;
      })

  group_entered : (kind : GroupKind) (s n : Statements) → Body s → InCell (core s) → enter_group source limits kind s ≡ Ok n → Body n
  unfolding enter_group
  group_entered groups.Other s n h c e = passed_on s n h e
  group_entered groups.Pin s n h c e = group_opened groups.Pin s n h c e
  group_entered groups.PgPin s n h c e = group_opened groups.PgPin s n h c e
  group_entered groups.Ff s n h c e = group_opened groups.Ff s n h c e
  group_entered groups.Latch s n h c e = group_opened groups.Latch s n h c e
  group_entered groups.StateTable s n h c e = group_opened groups.StateTable s n h c e
  group_entered groups.Unread s n h c e = group_opened groups.Unread s n h c e

  cell_opened : (t : Token) (s n : Statements) → Body s → InLibrary (core s) → length s.cells < limits.cells → enter_named_cell limits t (content source t) s ≡ Ok n → Body n
  unfolding enter_named_cell open_cell
  cell_opened t s n h c less e =
      let short = not_err _ _ _ n e in
      let named = or_err _ _ _ n short.1 in
      let fresh = not_err _ _ _ n named.1 in
      let same : open_cell s t (content source t) ≡ n = cc (fresh.1) in
      let groups : list_all is_kept_group s.groups ≡ true = let none = c.groups in rw none refl in
      let pins : s.pin_names ≡ names_of s.groups = let none = c.groups in c.pins ∙ rw none refl in
      let apart : is_distinct s.pin_names ≡ true = let none = c.pins in rw none refl in
      subst Body same (record {
        keeps = record {
          cells = h.keeps.cells;
          distinct = is_distinct-push s.cell_names (content source t) h.keeps.distinct fresh.0;
          at = record {
            few = less;
            names = ap (λ (z : List (List ℕ)). z ++ content source t ∷ []) c.names;
            name = name_within limits (content source t) named.0 short.0;
            groups = groups;
            pins = pins;
            apart = apart;
            attributes = c.attributes;
          };
        };
        none = h.none;
        named = h.named;
      })

  cell_entered : (t : Token) (s n : Statements) → Body s → InLibrary (core s) → enter_cell source limits t s ≡ Ok n → Body n
  unfolding enter_cell
  cell_entered t s n h c e =
      let room = not_err _ _ _ n e in
      let space : nat_le limits.cells (length s.cells) ≡ false = room.0 in
      let less : length s.cells < limits.cells = grind (arith, nat_tests) in
      cell_opened t s n h c less room.1

  library_entered : (ts : List Token) (s n : Statements) → Body s → InLibrary (core s) → enter_in_library source limits ts s ≡ Ok n → Body n
  unfolding enter_in_library
  library_entered [] s n h c e = passed_on s n h e
  library_entered (t ∷ u ∷ us) s n h c e = passed_on s n h e
  library_entered (t ∷ []) s n h c e = go (is_cell (text source s.word)) e
    where
      go : (b : Bool) → (if b then enter_cell source limits t s else Ok (pass s)) ≡ Ok n → Body n
      go true k = cell_entered t s n h c k
      go false k = passed_on s n h k

  level_entered : (l : Level) (s n : Statements) → s.level ≡ l → Body s → enter_level source limits l s ≡ Ok n → Body n
  level_entered levels.Library s n i h e = library_entered s.args s n h (subst (λ (l : Level). At l (core s)) i h.keeps.at) e
  level_entered levels.Cell s n i h e = group_entered (group_kind (text source s.word)) s n h (subst (λ (l : Level). At l (core s)) i h.keeps.at) e
  level_entered levels.Group s n i h e = passed_on s n h e

  all_entered : (s n : Statements) → Body s → entered source limits s ≡ Ok n → Body n
  unfolding entered
  all_entered s n h e = go (s.passed == 0) e
    where
      go : (b : Bool) → (if b then enter_level source limits s.level s else Ok (pass s)) ≡ Ok n → Body n
      go true k = level_entered s.level s n refl h k
      go false k = passed_on s n h k

  nested_same : (n : ℕ) (s m : Statements) → nested n s ≡ Ok m → s ≡ m
  unfolding nested
  nested_same zero s m e = cc e
  nested_same (suc n) s m e = cc e

  pub group_begun : (room : ℕ) (t : Token) (s n : Statements) → Body s → enter source limits room t s ≡ Ok n → Body n
  unfolding enter
  group_begun room t s n h e =
      let step = bind_ok (entered source limits s) (nested room) n e in
      subst Body (nested_same room step.0 n step.2) (all_entered s step.0 h step.1)

  pub library_begun : (room : ℕ) (t : Token) (s n : Statements) → Body s → open_library room t s ≡ Ok n → Body n
  unfolding open_library
  library_begun room t s n h e = subst Body (nested_same room s n e) h

  pub library_named : (t : Token) (s n : Statements) → Begun s → name_library source limits t s ≡ Ok n → Body n
  unfolding name_library
  library_named t s n h e =
      let short = not_err _ _ _ n e in
      let named = or_err _ _ _ n short.1 in
      let same : record s { name = Some t } ≡ n = cc (named.1) in
      subst Body same (record { keeps = h.keeps; none = h.none; named = name_within limits (content source t) named.0 short.0 })

  -- ---- between two tokens

  pub word_begun : (t : Token) (s n : Statements) → Body s → begin_statement t s ≡ Ok n → Body n
  unfolding begin_statement
  word_begun t s n h e = let same : record s { word = t; args = [] } ≡ n = cc e in subst Body same (record { keeps = h.keeps; none = h.none; named = h.named })

  pub arg_added : (t : Token) (s n : Statements) → Body s → add_arg t s ≡ Ok n → Body n
  unfolding add_arg
  arg_added t s n h e =
      let same : record s { args = if s.passed == 0 && is_outer s.level then s.args ++ t ∷ [] else s.args } ≡ n = cc e in
      subst Body same (record { keeps = h.keeps; none = h.none; named = h.named })

  level_kept : (l : Level) (c : Core) → c.level ≡ l → Keeps c → (length c.cells ≤ limits.cells) × (is_distinct (map cell_name c.cells) ≡ true)
  level_kept levels.Library c e h =
      let at : InLibrary c = subst (λ (z : Level). At z c) e h.at in
      (at.few, subst (λ (z : List (List ℕ)). is_distinct z ≡ true) at.names h.distinct)
  level_kept levels.Cell c e h =
      let at : InCell c = subst (λ (z : Level). At z c) e h.at in
      (omega (arith, at.few), is_distinct-first (map cell_name c.cells) (content source c.cell ∷ []) (subst (λ (z : List (List ℕ)). is_distinct z ≡ true) at.names h.distinct))
  level_kept levels.Group c e h =
      let at : InGroup c = subst (λ (z : Level). At z c) e h.at in
      (omega (arith, at.few), is_distinct-first (map cell_name c.cells) (content source c.cell ∷ []) (subst (λ (z : List (List ℕ)). is_distinct z ≡ true) at.names h.distinct))

  -- whatever is open, what was read is kept well
  pub body_kept : (s : Statements) → Body s → IsKept s
  body_kept s h =
      let k = level_kept s.level (core s) refl h.keeps in
      record { name = h.named; few = k.0; cells = h.keeps.cells; distinct = k.1 }
