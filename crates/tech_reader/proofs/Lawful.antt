-- A technology that is read has names, strengths within their ranges, and nothing twice.
use Rattle.std.proofs.Common.{◌≡◌, ◌≤◌, ◌+◌, ◌++◌, ◌⊎◌, inl, inr, ℕ, Bool, true, false, List, [], ◌∷◌, length, map, subst, Option, Some, None, Ok, refl, sym, ap, ◌∙◌, append_assoc, arith}
use Rattle.std.specs.Prelude.{filter_map, if◌then◌else◌, nat_le, codes}
use Rattle.std.specs.List.{cons_option, list_all, list_any}
use Rattle.std.specs.Str.{bytes_eq}
use Rattle.std.proofs.lemmas.Bool.Decides.{nat_tests}
use Rattle.std.proofs.lemmas.List.{append-nil, length-append, map-append}
use Rattle.std.proofs.lemmas.List.Elements.{filter_map-append}
use Rattle.std.proofs.lemmas.List.Folds.{list_all-append}
use Rattle.std.proofs.lemmas.Slice.Eq.{bytes_eq-Decides}
use Rattle.text_scan.specs.declared.limits.Limits.{Limits}
use Rattle.text_scan.specs.declared.refusal.FileRefusal.{FileRefusal}
use Rattle.file_rules.specs.Names.{is_distinct, is_name_within}
use Rattle.file_rules.specs.Kept.{both_true, is_distinct-push, name_within, neither_true}
use Rattle.circuit.specs.declared.tech.Tech.{Tech}
use Rattle.circuit.specs.declared.tech.ModelCard.{ModelCard}
use Rattle.circuit.specs.declared.tech.Size.{Size}
use Rattle.circuit.specs.declared.tech.Supply.{Supply}
use Rattle.circuit.specs.Tech.{IsTech, is_model, is_size, is_supply, is_supply_kind, model_name, size_names, supply_name}
use Rattle.csv_records.specs.Answers.{answer, first_refusal, refusal_after}
use Rattle.csv_records.specs.Fields.{first_of, named, unless}
use Rattle.tech_reader.specs.Fields.{digit, is_digit_within, kind_of, wrong, wrong_of_four}
use Rattle.tech_reader.specs.Tech.{joined, key, key_of, model, model_of, pin_kind, refuses, size, size_of, supply, supply_of, tech_of, told}
use Rattle.tech_reader.specs.declared.fields.Kind.{Kind}
use Rattle.tech_reader.specs.declared.fields.Kind.TheVariants as kinds

abbrev Row : Type 0
Row = List (List ℕ)

-- ---- tests that passed

first_none : (a b : Option FileRefusal) → first_of a b ≡ None → (a ≡ None) × (b ≡ None)
first_none None b h = (refl, h)
first_none (Some e) b h = cc h

unless_none : (ok : Bool) (line column : ℕ) → unless ok line column ≡ None → ok ≡ true
unless_none true line column h = refl
unless_none false line column h = cc h

not_some : (b : Bool) (e : FileRefusal) (o : Option FileRefusal) → (if b then Some e else o) ≡ None → (b ≡ false) × (o ≡ None)
not_some true e o h = cc h
not_some false e o h = (refl, h)

named_none : (limits : Limits) (line column : ℕ) (field : List ℕ) → named limits line column field ≡ None → is_name_within limits field ≡ true
unfolding named
named_none limits line column field h =
    let parts = not_some _ _ _ h in
    name_within limits field (unless_none _ line column parts.1) parts.0

digit_within : (least most : ℕ) (field : List ℕ) → is_digit_within least most field ≡ true → (nat_le least (digit field) ≡ true) × (nat_le (digit field) most ≡ true)
digit_within least most [] h = cc h
digit_within least most (d ∷ []) h =
    let parts : (nat_le (48 + least) d ≡ true) × (nat_le d (48 + most) ≡ true) = both_true _ _ h in
    let low : nat_le (48 + least) d ≡ true = parts.0 in
    let high : nat_le d (48 + most) ≡ true = parts.1 in
    (grind (arith, nat_tests), grind (arith, nat_tests))
digit_within least most (d ∷ e ∷ f) h = cc h

-- ---- what a record gives is right

model_right : (limits : Limits) (line : ℕ) (k : Option Kind) (name third last : List ℕ) (m : ModelCard) → wrong_of_four limits line k name third last ≡ None → model k name third last ≡ Some m
    → is_model limits m ≡ true
model_right limits line None name third last m h e = cc h
model_right limits line (Some kinds.Size) name third last m h e = cc e
model_right limits line (Some kinds.Supply) name third last m h e = cc e
model_right limits line (Some kinds.Model) name third last m h e =
    let first = first_none _ _ h in
    let good : is_name_within limits name ≡ true = named_none limits line 2 name first.0 in
    let strength = digit_within 4 7 last (unless_none _ line 4 (first_none _ _ first.1).1) in
    let same : record { name = name; p = bytes_eq third (codes "p"); strength = digit last } ≡ m = cc e in
    subst (λ (z : ModelCard). is_model limits z ≡ true) same (rw (good, strength.0, strength.1) refl)

size_right : (limits : Limits) (line : ℕ) (k : Option Kind) (name third last : List ℕ) (s : Size) → wrong_of_four limits line k name third last ≡ None → size k name third last ≡ Some s
    → is_size limits s ≡ true
size_right limits line None name third last s h e = cc h
size_right limits line (Some kinds.Model) name third last s h e = cc e
size_right limits line (Some kinds.Supply) name third last s h e = cc e
size_right limits line (Some kinds.Size) name third last s h e =
    let first = first_none _ _ h in
    let second = first_none _ _ first.1 in
    let cell : is_name_within limits name ≡ true = named_none limits line 2 name first.0 in
    let node : is_name_within limits third ≡ true = named_none limits line 3 third second.0 in
    let strength = digit_within 1 3 last (unless_none _ line 4 second.1) in
    let same : record { cell = name; node = third; strength = digit last } ≡ s = cc e in
    subst (λ (z : Size). is_size limits z ≡ true) same (rw (cell, node, strength.0, strength.1) refl)

supply_kind : (b : Bool) (word : List ℕ) → bytes_eq word (codes "power") ≡ b → is_supply_kind (pin_kind word) ≡ true
supply_kind true word h = rw h refl
supply_kind false word h = rw h refl

supply_right : (limits : Limits) (line : ℕ) (k : Option Kind) (name third last : List ℕ) (s : Supply) → wrong_of_four limits line k name third last ≡ None → supply k name third ≡ Some s
    → is_supply limits s ≡ true
supply_right limits line None name third last s h e = cc h
supply_right limits line (Some kinds.Model) name third last s h e = cc e
supply_right limits line (Some kinds.Size) name third last s h e = cc e
supply_right limits line (Some kinds.Supply) name third last s h e =
    let good : is_name_within limits name ≡ true = named_none limits line 2 name (first_none _ _ h).0 in
    let same : record { name = name; kind = pin_kind third } ≡ s = cc e in
    subst (λ (z : Supply). is_supply limits z ≡ true) same (rw (good, supply_kind _ third refl) refl)

models_right : (limits : Limits) (line : ℕ) (row : Row) → wrong limits line row ≡ None → (m : ModelCard) → model_of row ≡ Some m → is_model limits m ≡ true
models_right limits line (kind ∷ name ∷ third ∷ last ∷ []) h m e = model_right limits line (kind_of kind) name third last m h e
models_right limits line _ h m e = cc h

sizes_right : (limits : Limits) (line : ℕ) (row : Row) → wrong limits line row ≡ None → (s : Size) → size_of row ≡ Some s → is_size limits s ≡ true
sizes_right limits line (kind ∷ name ∷ third ∷ last ∷ []) h s e = size_right limits line (kind_of kind) name third last s h e
sizes_right limits line _ h s e = cc h

supplies_right : (limits : Limits) (line : ℕ) (row : Row) → wrong limits line row ≡ None → (s : Supply) → supply_of row ≡ Some s → is_supply limits s ≡ true
supplies_right limits line (kind ∷ name ∷ third ∷ last ∷ []) h s e = supply_right limits line (kind_of kind) name third last s h e
supplies_right limits line _ h s e = cc h

-- ---- keys

abbrev word_of : Kind → List ℕ
word_of kinds.Model = codes "model"
word_of kinds.Size = codes "size"
word_of kinds.Supply = codes "supply"

chosen : (b : Bool) (x y : Option Kind) (k : Kind) → (if b then x else y) ≡ Some k → ((b ≡ true) × (x ≡ Some k)) ⊎ (y ≡ Some k)
chosen true x y k h = inl (refl, h)
chosen false x y k h = inr h

spelled : (w : List ℕ) (j k : Kind) → bytes_eq w (word_of j) ≡ true → Some j ≡ Some k → w ≡ word_of k
spelled w j k h e = let same : j ≡ k = cc e in (bytes_eq-Decides w (word_of j)).0 h ∙ ap word_of same

abbrev supply_kind_of : List ℕ → Option Kind
supply_kind_of w = if bytes_eq w (codes "supply") then Some kinds.Supply else None

abbrev size_kind_of : List ℕ → Option Kind
size_kind_of w = if bytes_eq w (codes "size") then Some kinds.Size else supply_kind_of w

-- a kind is named by its word alone
kind_word : (w : List ℕ) (k : Kind) → kind_of w ≡ Some k → w ≡ word_of k
unfolding kind_of
kind_word w k h = first (chosen (bytes_eq w (codes "model")) (Some kinds.Model) (size_kind_of w) k h)
  where
    third : ((bytes_eq w (codes "supply") ≡ true) × (Some kinds.Supply ≡ Some k)) ⊎ (None ≡ Some k) → w ≡ word_of k
    third (inl p) = spelled w kinds.Supply k p.0 p.1
    third (inr none) = cc none

    second : ((bytes_eq w (codes "size") ≡ true) × (Some kinds.Size ≡ Some k)) ⊎ (supply_kind_of w ≡ Some k) → w ≡ word_of k
    second (inl p) = spelled w kinds.Size k p.0 p.1
    second (inr rest) = third (chosen (bytes_eq w (codes "supply")) (Some kinds.Supply) None k rest)

    first : ((bytes_eq w (codes "model") ≡ true) × (Some kinds.Model ≡ Some k)) ⊎ (size_kind_of w ≡ Some k) → w ≡ word_of k
    first (inl p) = spelled w kinds.Model k p.0 p.1
    first (inr rest) = second (chosen (bytes_eq w (codes "size")) (Some kinds.Size) (supply_kind_of w) k rest)

model_key : (w : List ℕ) (k : Option Kind) (name third last : List ℕ) (m : ModelCard) → kind_of w ≡ k → model k name third last ≡ Some m → key_of k w name third ≡ joined (codes "model") (model_name m)
model_key w None name third last m h e = cc e
model_key w (Some kinds.Size) name third last m h e = cc e
model_key w (Some kinds.Supply) name third last m h e = cc e
model_key w (Some kinds.Model) name third last m h e =
    let same : record { name = name; p = bytes_eq third (codes "p"); strength = digit last } ≡ m = cc e in
    let word : w ≡ codes "model" = kind_word w kinds.Model h in
    ap (λ (z : List ℕ). joined z name) word ∙ ap (λ (z : ModelCard). joined (codes "model") (model_name z)) same

size_key : (w : List ℕ) (k : Option Kind) (name third last : List ℕ) (s : Size) → kind_of w ≡ k → size k name third last ≡ Some s → key_of k w name third ≡ joined (codes "size") (size_names s)
size_key w None name third last s h e = cc e
size_key w (Some kinds.Model) name third last s h e = cc e
size_key w (Some kinds.Supply) name third last s h e = cc e
size_key w (Some kinds.Size) name third last s h e =
    let same : record { cell = name; node = third; strength = digit last } ≡ s = cc e in
    let word : w ≡ codes "size" = kind_word w kinds.Size h in
    append_assoc w (44 ∷ name) (44 ∷ third) ∙ ap (λ (z : List ℕ). joined z (joined name third)) word ∙ ap (λ (z : Size). joined (codes "size") (size_names z)) same

supply_key : (w : List ℕ) (k : Option Kind) (name third : List ℕ) (s : Supply) → kind_of w ≡ k → supply k name third ≡ Some s → key_of k w name third ≡ joined (codes "supply") (supply_name s)
supply_key w None name third s h e = cc e
supply_key w (Some kinds.Model) name third s h e = cc e
supply_key w (Some kinds.Size) name third s h e = cc e
supply_key w (Some kinds.Supply) name third s h e =
    let same : record { name = name; kind = pin_kind third } ≡ s = cc e in
    let word : w ≡ codes "supply" = kind_word w kinds.Supply h in
    ap (λ (z : List ℕ). joined z name) word ∙ ap (λ (z : Supply). joined (codes "supply") (supply_name z)) same

model_keys : (row : Row) (m : ModelCard) → model_of row ≡ Some m → key row ≡ joined (codes "model") (model_name m)
model_keys (kind ∷ name ∷ third ∷ last ∷ []) m e = model_key kind (kind_of kind) name third last m refl e
model_keys _ m e = cc e

size_keys : (row : Row) (s : Size) → size_of row ≡ Some s → key row ≡ joined (codes "size") (size_names s)
size_keys (kind ∷ name ∷ third ∷ last ∷ []) s e = size_key kind (kind_of kind) name third last s refl e
size_keys _ s e = cc e

supply_keys : (row : Row) (s : Supply) → supply_of row ≡ Some s → key row ≡ joined (codes "supply") (supply_name s)
supply_keys (kind ∷ name ∷ third ∷ last ∷ []) s e = supply_key kind (kind_of kind) name third s refl e
supply_keys _ s e = cc e

-- ---- the items that records give

-- each passes, and none has the name of another
record IsSound {A : Type 0} (ok : A → Bool) (name : A → List ℕ) (items : List A) : Type 0 where
  all : list_all ok items ≡ true
  distinct : is_distinct (map name items) ≡ true

apart_by : (k a b : List ℕ) (v : Bool) → bytes_eq a b ≡ v → bytes_eq (joined k a) (joined k b) ≡ false → v ≡ false
apart_by k a b false e h = refl
apart_by k a b true e h =
    let keys : bytes_eq (joined k a) (joined k b) ≡ true = (bytes_eq-Decides (joined k a) (joined k b)).1 (ap (joined k) ((bytes_eq-Decides a b).0 e)) in
    cc

module _ {A : Type 0} (ok : A → Bool) (f : Row → Option A) (name : A → List ℕ) (k : List ℕ) (keyed : (row : Row) (a : A) → f row ≡ Some a → key row ≡ joined k (name a)) where
  new_before : (row : Row) (o : Option A) (items : List A) (a : A) → f row ≡ o → bytes_eq (joined k (name a)) (key row) ≡ false → list_any (bytes_eq (name a)) (map name items) ≡ false
      → list_any (bytes_eq (name a)) (map name (cons_option o items)) ≡ false
  new_before row None items a e h rest = rest
  new_before row (Some b) items a e h rest =
      let apart : bytes_eq (name a) (name b) ≡ false = apart_by k (name a) (name b) _ refl (rw (keyed row b e) at h) in
      rw (apart, rest) refl

  -- where the key is new, so is the name
  is_new : (rows : List Row) (a : A) → list_any (bytes_eq (joined k (name a))) (map key rows) ≡ false → list_any (bytes_eq (name a)) (map name (filter_map f rows)) ≡ false
  is_new [] a h = refl
  is_new (row ∷ rows) a h =
      let apart = neither_true (bytes_eq (joined k (name a)) (key row)) (list_any (bytes_eq (joined k (name a))) (map key rows)) h in
      new_before row (f row) (filter_map f rows) a refl apart.0 (is_new rows a apart.1)

  sound_by : (rows : List Row) (row : Row) (o : Option A) → f row ≡ o → IsSound ok name (filter_map f rows) → list_any (bytes_eq (key row)) (map key rows) ≡ false → ((a : A) → f row ≡ Some a → ok a ≡ true)
      → IsSound ok name (filter_map f rows ++ cons_option o [])
  sound_by rows row None e s new right = subst (λ (z : List A). IsSound ok name z) (sym (append-nil (filter_map f rows))) s
  sound_by rows row (Some a) e s new right =
      let fresh : list_any (bytes_eq (name a)) (map name (filter_map f rows)) ≡ false = is_new rows a (rw (keyed row a e) at new) in
      let good : ok a ≡ true = right a e in
      record {
        all = list_all-append ok (filter_map f rows) (a ∷ []) ∙ rw (s.all, good) refl;
        distinct = rw (map-append name (filter_map f rows) (a ∷ [])) (is_distinct-push (map name (filter_map f rows)) (name a) s.distinct fresh);
      }

  sound_more : (rows : List Row) (row : Row) → IsSound ok name (filter_map f rows) → list_any (bytes_eq (key row)) (map key rows) ≡ false → ((a : A) → f row ≡ Some a → ok a ≡ true)
      → IsSound ok name (filter_map f (rows ++ row ∷ []))
  sound_more rows row s new right = subst (λ (z : List A). IsSound ok name z) (sym (filter_map-append f rows (row ∷ []))) (sound_by rows row (f row) refl s new right)

-- ---- a record gives one item

one_of : (k : Option Kind) (name third last : List ℕ) → length (cons_option (model k name third last) []) + length (cons_option (size k name third last) []) + length (cons_option (supply k name third) []) ≤ 1
one_of None name third last = omega arith
one_of (Some kinds.Model) name third last = omega arith
one_of (Some kinds.Size) name third last = omega arith
one_of (Some kinds.Supply) name third last = omega arith

one_item : (row : Row) → length (cons_option (model_of row) []) + length (cons_option (size_of row) []) + length (cons_option (supply_of row) []) ≤ 1
one_item (kind ∷ name ∷ third ∷ last ∷ []) = one_of (kind_of kind) name third last
one_item _ = omega arith

length-cons_option : {A : Type 0} (o : Option A) (items : List A) → length (cons_option o items) ≡ length (cons_option o []) + length items
length-cons_option None items = omega arith
length-cons_option (Some a) items = omega arith

few : (rows : List Row) → length (filter_map model_of rows) + length (filter_map size_of rows) + length (filter_map supply_of rows) ≤ length rows
few [] = omega arith
few (row ∷ rows) =
    let rest = few rows in
    let one = one_item row in
    let a = length-cons_option (model_of row) (filter_map model_of rows) in
    let b = length-cons_option (size_of row) (filter_map size_of rows) in
    let c = length-cons_option (supply_of row) (filter_map supply_of rows) in
    omega arith

-- ---- all records

record AreSound (limits : Limits) (rows : List Row) : Type 0 where
  count : length rows ≤ limits.records
  models : IsSound (is_model limits) model_name (filter_map model_of rows)
  sizes : IsSound (is_size limits) size_names (filter_map size_of rows)
  supplies : IsSound (is_supply limits) supply_name (filter_map supply_of rows)

one_more : (limits : Limits) (rows : List Row) (row : Row) → AreSound limits rows → refusal_after limits (refuses limits) rows row ≡ None → AreSound limits (rows ++ row ∷ [])
unfolding refusal_after
one_more limits rows row s h =
    let room = not_some _ _ _ h in
    let parts = first_none _ _ room.1 in
    let new : list_any (bytes_eq (key row)) (map key rows) ≡ false = (not_some _ _ _ parts.1).0 in
    let space : nat_le limits.records (length rows) ≡ false = room.0 in
    record {
      count = count_more limits rows row space;
      models = sound_more (is_model limits) model_of model_name (codes "model") model_keys rows row s.models new (models_right limits _ row parts.0);
      sizes = sound_more (is_size limits) size_of size_names (codes "size") size_keys rows row s.sizes new (sizes_right limits _ row parts.0);
      supplies = sound_more (is_supply limits) supply_of supply_name (codes "supply") supply_keys rows row s.supplies new (supplies_right limits _ row parts.0);
    }
  where
    count_more : (limits : Limits) (rows : List Row) (row : Row) → nat_le limits.records (length rows) ≡ false → length (rows ++ row ∷ []) ≤ limits.records
    count_more limits rows row h = let n = length-append rows (row ∷ []) in grind (arith, nat_tests)

all_of : (limits : Limits) (before rows : List Row) → AreSound limits before → first_refusal limits (refuses limits) before rows ≡ None → AreSound limits (before ++ rows)
unfolding first_refusal
all_of limits before [] s h = subst (AreSound limits) (sym (append-nil before)) s
all_of limits before (row ∷ rows) s h =
    let parts = first_none _ _ h in
    subst (AreSound limits) (append_assoc before (row ∷ []) rows) (all_of limits (before ++ row ∷ []) rows (one_more limits before row s parts.0) parts.1)

told_ok : (o : Option FileRefusal) (t tech : Tech) → answer o t ≡ Ok tech → (o ≡ None) × (t ≡ tech)
told_ok None t tech h = (refl, cc h)
told_ok (Some e) t tech h = cc h

made : (limits : Limits) (rows : List Row) → AreSound limits rows → IsTech limits (tech_of rows)
unfolding tech_of
made limits rows s =
    let fits = few rows in
    record {
      few = omega (arith, s.count);
      models = s.models.all;
      sizes = s.sizes.all;
      supplies = s.supplies.all;
      distinct_models = s.models.distinct;
      distinct_sizes = s.sizes.distinct;
      distinct_supplies = s.supplies.distinct;
    }

-- what is told of records is lawful
pub lawful : (limits : Limits) (rows : List Row) (tech : Tech) → told limits rows ≡ Ok tech → IsTech limits tech
unfolding told
lawful limits rows tech h =
    let parts = told_ok _ _ _ h in
    let begun : AreSound limits [] = record {
      count = omega arith;
      models = record { all = refl; distinct = refl };
      sizes = record { all = refl; distinct = refl };
      supplies = record { all = refl; distinct = refl };
    } in
    subst (IsTech limits) parts.1 (made limits rows (all_of limits [] rows begun parts.0))
