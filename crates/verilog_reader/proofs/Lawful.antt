-- Each source that is read has names within the limit, ports with directions, elements of such names, words that can be
-- shown, and no part with the name of another.
use Rattle.std.proofs.Common.{◌≡◌, ℕ, zero, suc, ◌+◌, ◌≤◌, Bool, true, false, not, ◌||◌, List, [], ◌∷◌, ◌++◌, length, map, Ok, Err, refl, sym, ap, subst, arith, ◌∙◌}
use Rattle.std.specs.Prelude.{if◌then◌else◌, nat_le}
use Rattle.std.specs.List.{list_all, list_any}
use Rattle.std.specs.Str.{bytes_eq}
use Rattle.std.proofs.lemmas.Bool.Decides.{nat_tests}
use Rattle.std.proofs.lemmas.List.Folds.{list_any-append}
use Rattle.std.proofs.lemmas.Slice.Eq.{bytes_eq-Decides}
use Rattle.text_scan.specs.declared.limits.Limits.{Limits}
use Rattle.text_scan.specs.Limits.{standard}
use Rattle.text_scan.specs.declared.limits.LimitKind.TheVariants as limit_kinds
use Rattle.text_scan.specs.declared.refusal.FileRefusal.{FileRefusal}
use Rattle.text_scan.specs.declared.token.Token.{Token}
use Rattle.file_rules.specs.Names.{is_name, is_too_long, is_name_within, is_distinct, is_shown, shown_word, shown_string}
use Rattle.file_rules.specs.Kept.{both_true, neither_true, bytes_eq-refused, is_distinct-push, name_within, shown_word-shown, shown_string-shown}
use Rattle.name_index.specs.Places.{is_known}
use Rattle.grammar.specs.Rule.{Rule, none, seq}
use Rattle.grammar.specs.Reading.{Stop, syntax, refusal}
use Rattle.grammar.specs.Answers.{IsAnswer}
use Rattle.verilog_directives.specs.declared.left.Left.{Left}
use Rattle.verilog_directives.specs.Left.{left_of}
use Rattle.verilog_looks.specs.declared.halt.Refusal.{Refusal}
use Rattle.verilog_looks.specs.declared.halt.Refusal.TheVariants as refusals
use Rattle.verilog_looks.specs.declared.look.Look.{Look}
use Rattle.verilog_looks.specs.declared.look.Look.TheVariants as variants
use Rattle.verilog_looks.specs.Looks as looks
use Rattle.verilog_looks.specs.Looks.{look_of, is_passed, text}
use Rattle.verilog_looks.specs.Names.{content, inside, is_string, look_word, word_of}
use Rattle.verilog_source.specs.declared.module.ModulePart.{ModulePart}
use Rattle.verilog_source.specs.declared.module.ModulePart.TheVariants as module_parts
use Rattle.verilog_source.specs.declared.primitive.UdpPart.{UdpPart}
use Rattle.verilog_source.specs.declared.primitive.UdpPart.TheVariants as udp_parts
use Rattle.verilog_source.specs.declared.Source.{Source}
use Rattle.verilog_source.specs.Source.{module_name as name_of_module, udp_name as name_of_udp, is_module_part, is_udp_part, part_names, IsSource as IsKept}
use Rattle.verilog_modules.specs.declared.module_text.ModuleText.{ModuleText}
use Rattle.verilog_modules.specs.ModuleGrammar.{is_beside, is_off, module_body}
use Rattle.verilog_modules.specs.ModuleActions.{no_module}
use Rattle.verilog_modules.proofs.Keeping.{Leads, leads_none, leads_before, leads_one, leads_seq, leads_alt, leads_many}
use Rattle.verilog_modules.proofs.Holding.{Keeps, keeps_none, keeps_one, keeps_seq, keeps_many}
use Rattle.verilog_modules.proofs.Kept.{all_more}
use Rattle.verilog_modules.proofs.KeptSteps.{Holds, Tells}
use Rattle.verilog_modules.proofs.KeptBody.{Read, body_kept, none_held, whole_kept}
use Rattle.verilog_primitives.specs.declared.PrimitiveText.{PrimitiveText}
use Rattle.verilog_primitives.specs.UdpActions.{no_udp}
use Rattle.verilog_primitives.specs.UdpGrammar.{udp_body}
use Rattle.verilog_reader.specs.declared.file_text.FileText.{FileText}
use Rattle.verilog_reader.specs.declared.file_text.Opened.{Opened}
use Rattle.verilog_reader.specs.declared.file_text.Opened.TheVariants as openings
use Rattle.verilog_reader.specs.declared.file_phase.FileAction.TheVariants as actions
use Rattle.verilog_reader.specs.File.{First, IsFirst, FileAnswer, Next, Goes, Skips, Stops, refused_with, refused_at, word_of_first, stopped_part, after_module, after_udp, AfterRest, Then, Opens, AfterOutside, IsFile, IsSource}
use Rattle.verilog_reader.specs.FileActions.{FileOutcome, no_file, opened_as, perform_file, name_part, module_of, udp_of, whole_module, refused_module, whole_udp, refused_udp}
use Rattle.verilog_reader.specs.FileGrammar.{act, line_rest, passed_line, module_name, primitive_name, outside, unread, part_rest, anything}
use Rattle.verilog_reader.specs.Promise.{IsAnswered, source_of, told}
use Rattle.verilog_reader.proofs.KeptPrimitives.{body_told}

-- ---- lists

map_more : {A B : Type 0} (f : A → B) (xs : List A) (x : A) → map f (xs ++ x ∷ []) ≡ map f xs ++ f x ∷ []
map_more f [] x = refl
map_more f (y ∷ ys) x = ap (λ z. f y ∷ z) (map_more f ys x)

append_assoc : {A : Type 0} (xs ys zs : List A) → xs ++ (ys ++ zs) ≡ (xs ++ ys) ++ zs
append_assoc [] ys zs = refl
append_assoc (x ∷ xs) ys zs = ap (λ z. x ∷ z) (append_assoc xs ys zs)

length_more : {A : Type 0} (xs : List A) (x : A) → length (xs ++ x ∷ []) ≡ suc (length xs)
length_more [] x = refl
length_more (y ∷ ys) x = ap suc (length_more ys x)

all_between : (p : List ℕ → Bool) (xs ys : List (List ℕ)) (z : List ℕ) → list_all p (xs ++ ys) ≡ true → p z ≡ true → list_all p ((xs ++ z ∷ []) ++ ys) ≡ true
all_between p [] ys z h k = rw (k, h) refl
all_between p (x ∷ xs) ys z h k =
    let both = both_true (p x) (list_all p (xs ++ ys)) h in
    let rest : list_all p ((xs ++ z ∷ []) ++ ys) ≡ true = all_between p xs ys z both.1 k in
    rw (both.0, rest) refl

none_between : (p : List ℕ → Bool) (xs ys : List (List ℕ)) (z : List ℕ) → list_any p (xs ++ ys) ≡ false → p z ≡ false → list_any p ((xs ++ z ∷ []) ++ ys) ≡ false
none_between p [] ys z h k = rw (k, h) refl
none_between p (x ∷ xs) ys z h k =
    let both = neither_true (p x) (list_any p (xs ++ ys)) h in
    let rest : list_any p ((xs ++ z ∷ []) ++ ys) ≡ false = none_between p xs ys z both.1 k in
    rw (both.0, rest) refl

not_any : (b : Bool) → not b ≡ true → b ≡ false
not_any false h = refl
not_any true h = absurd (cc)

-- a name that isn't among the others may stand between them
distinct_between : (xs ys : List (List ℕ)) (z : List ℕ) → is_distinct (xs ++ ys) ≡ true → list_any (bytes_eq z) (xs ++ ys) ≡ false → is_distinct ((xs ++ z ∷ []) ++ ys) ≡ true
distinct_between [] ys z h k = rw (k, h) refl
distinct_between (x ∷ xs) ys z h k =
    let both = both_true (not (list_any (bytes_eq x) (xs ++ ys))) (is_distinct (xs ++ ys)) h in
    let apart = neither_true (bytes_eq z x) (list_any (bytes_eq z) (xs ++ ys)) k in
    let rest : is_distinct ((xs ++ z ∷ []) ++ ys) ≡ true = distinct_between xs ys z both.1 apart.1 in
    let others : list_any (bytes_eq x) ((xs ++ z ∷ []) ++ ys) ≡ false =
    none_between (bytes_eq x) xs ys z (not_any (list_any (bytes_eq x) (xs ++ ys)) both.0) (bytes_eq-refused z x apart.0) in
    rw (others, rest) refl

-- ---- names that were read

known_more : (name : List ℕ) (names : List (List ℕ)) (more : List ℕ) → is_known name names ≡ true → is_known name (names ++ more ∷ []) ≡ true
known_more name names more h = rw (list_any-append (bytes_eq name) names (more ∷ []), h) refl

all_known_more : (xs names : List (List ℕ)) (more : List ℕ) → list_all (λ n. is_known n names) xs ≡ true → list_all (λ n. is_known n (names ++ more ∷ [])) xs ≡ true
all_known_more [] names more h = refl
all_known_more (x ∷ xs) names more h =
    let both = both_true (is_known x names) (list_all (λ n. is_known n names) xs) h in
    let first : is_known x (names ++ more ∷ []) ≡ true = known_more x names more both.0 in
    let rest : list_all (λ n. is_known n (names ++ more ∷ [])) xs ≡ true = all_known_more xs names more both.1 in
    rw (first, rest) refl

known_last : (names : List (List ℕ)) (name : List ℕ) → is_known name (names ++ name ∷ []) ≡ true
known_last [] name = let same : bytes_eq name name ≡ true = (bytes_eq-Decides name name).1 refl in rw (same) refl
known_last (n ∷ names) name = or_true (bytes_eq name n) (is_known name (names ++ name ∷ [])) (known_last names name)
  where
    or_true : (a b : Bool) → b ≡ true → (a || b) ≡ true
    or_true true b h = refl
    or_true false b h = h

other_name : (name x : List ℕ) (names : List (List ℕ)) (b : Bool) → bytes_eq name x ≡ b → is_known name names ≡ false → is_known x names ≡ true → b ≡ false
other_name name x names false e h k = refl
other_name name x names true e h k =
    let same : name ≡ x = (bytes_eq-Decides name x).0 e in
    let known : is_known name names ≡ true = subst (λ z. is_known z names ≡ true) (sym same) k in
    let no : true ≡ false = sym known ∙ h in
    absurd (cc)

-- a name that wasn't read is none of those that were
unknown_apart : (xs names : List (List ℕ)) (name : List ℕ) → is_known name names ≡ false → list_all (λ n. is_known n names) xs ≡ true → list_any (bytes_eq name) xs ≡ false
unknown_apart [] names name h k = refl
unknown_apart (x ∷ xs) names name h k =
    let both = both_true (is_known x names) (list_all (λ n. is_known n names) xs) k in
    let first : bytes_eq name x ≡ false = other_name name x names (bytes_eq name x) refl h both.0 in
    let rest : list_any (bytes_eq name) xs ≡ false = unknown_apart xs names name h both.1 in
    rw (first, rest) refl

-- ---- words

string_shown : (source : List ℕ) (t : Token) (b : Bool) → is_shown (if b then shown_string (inside source t) else shown_word (text source t)) ≡ true
string_shown source t true = shown_string-shown (inside source t)
string_shown source t false = shown_word-shown (text source t)

look_shown : (source : List ℕ) (t : Token) (l : Look) → is_shown (look_word source t l) ≡ true
look_shown source t variants.Macro = refl
look_shown source t variants.EndModule = refl
look_shown source t variants.EndPrimitive = refl
look_shown source t _ = string_shown source t (is_string t.kind)

word_shown : (source : List ℕ) (t : Left) → is_shown (word_of source t) ≡ true
unfolding word_of
word_shown source t = look_shown source t.token (look_of source t)

-- ---- where a part is refused there is an item

abbrev HasItem : List Left → Type 0
HasItem [] = ⊥
HasItem (t ∷ ts) = Unit {0}

abbrev StopTells : Stop Left Refusal → Type 0
StopTells (syntax ts) = Unit {0}
StopTells (refusal e ts) = Tells e × HasItem ts

any_kept : {S : Type 0} (P : S → Type 0) → Keeps {T = Left} {S = S} {E = Refusal} Tells P anything P
any_kept P =
    keeps_many Tells P _
    (keeps_one Tells P P P (λ t. true) (λ t s. Ok s) (λ t. none) (λ x s m k h e. let same : s ≡ m = cc in subst P same h) (λ x s e k h f. absurd (cc)) (λ x k. keeps_none Tells P))

stop_tells : {S : Type 0} (a : Rule Left S Refusal) (P Q : S → Type 0) → Keeps Tells P a Q → (s : S) (ts : List Left) (stop : Stop Left Refusal) → P s
    → IsAnswer (seq a anything) s ts (Err stop) → StopTells stop
stop_tells a P Q kept s ts (syntax rest) h is = tt
stop_tells a P Q kept s ts (refusal e rest) h is = (
  (keeps_seq Tells P Q Q a anything kept (any_kept Q)).halts s (is.us ++ is.token ∷ []) e h is.front,
  subst HasItem (sym is.is_rest) tt,
)

-- ---- what is kept of a file

abbrev names_of : FileText → List (List ℕ)
names_of f = part_names (source_of f)

module _ (source : List ℕ) (limits : Limits) (low : 4 ≤ limits.name) (high : limits.name ≤ 128) where
  -- between parts
  record Base (f : FileText) : Type 0 where
    few_modules : length f.modules ≤ limits.cells
    few_primitives : length f.primitives ≤ limits.cells
    modules : list_all (is_module_part limits) f.modules ≡ true
    primitives : list_all (is_udp_part limits) f.primitives ≡ true
    distinct : is_distinct (names_of f) ≡ true
    known : list_all (λ n. is_known n f.names) (names_of f) ≡ true

  -- behind the name of a part
  record Fresh (f : FileText) : Type 0 where
    name : is_name_within limits f.name ≡ true
    apart : list_any (bytes_eq f.name) (names_of f) ≡ false
    listed : is_known f.name f.names ≡ true

  abbrev Ready : Opened → FileText → Type 0
  Ready openings.Line f = Unit {0}
  Ready openings.Module f = Fresh f × (suc (length f.modules) ≤ limits.cells)
  Ready openings.Primitive f = Fresh f × (suc (length f.primitives) ≤ limits.cells)
  Ready openings.End f = Unit {0}

  abbrev B : FileText → List Left → Type 0
  B f ts = Base f

  abbrev M : FileText → List Left → Type 0
  M f ts = Base f × (suc (length f.modules) ≤ limits.cells)

  abbrev U : FileText → List Left → Type 0
  U f ts = Base f × (suc (length f.primitives) ≤ limits.cells)

  abbrev O : FileText → List Left → Type 0
  O f ts = Base f × Ready f.opened f

  -- ---- items outside parts

  ok_is : (f g : FileText) → ◌≡◌ {A = FileOutcome} (Ok f) (Ok g) → f ≡ g
  ok_is f g h = cc

  with_opened : (opened : Opened) (f : FileText) → Base f → Base (record f { opened = opened })
  with_opened opened f h = record { few_modules = h.few_modules; few_primitives = h.few_primitives; modules = h.modules; primitives = h.primitives; distinct = h.distinct; known = h.known }

  keep_step : (P : FileText → Type 0) (t : Left) (f g : FileText) → P f → perform_file source limits actions.Keep t f ≡ Ok g → P g
  unfolding perform_file
  keep_step P t f g h e = subst P (ok_is f g e) h

  line_step : (t : Left) (f g : FileText) → Base f → perform_file source limits actions.BeginLine t f ≡ Ok g → O g []
  unfolding perform_file
  line_step t f g h e = subst (λ z. O z []) (ok_is (record f { opened = openings.Line }) g e) (with_opened openings.Line f h, tt)

  end_step : (t : Left) (f g : FileText) → Base f → perform_file source limits actions.End t f ≡ Ok g → O g []
  unfolding perform_file
  end_step t f g h e = subst (λ z. O z []) (ok_is (record f { opened = openings.End }) g e) (with_opened openings.End f h, tt)

  room : (n : ℕ) → nat_le limits.cells n ≡ false → suc n ≤ limits.cells
  room n h = grind (arith, nat_tests)

  counted : (n : ℕ) (f g : FileText) (b : Bool) → nat_le limits.cells n ≡ b → ◌≡◌ {A = FileOutcome} (if b then Err (refusals.TooMany limit_kinds.Cells) else Ok f) (Ok g) → (f ≡ g) × (suc n ≤ limits.cells)
  counted n f g true h e = absurd (cc)
  counted n f g false h e = (ok_is f g e, room n h)

  modules_step : (t : Left) (f g : FileText) → Base f → perform_file source limits actions.CountModule t f ≡ Ok g → M g []
  unfolding perform_file
  modules_step t f g h e = let c = counted (length f.modules) f g (nat_le limits.cells (length f.modules)) refl e in subst (λ z. M z []) c.0 (h, c.1)

  primitives_step : (t : Left) (f g : FileText) → Base f → perform_file source limits actions.CountPrimitive t f ≡ Ok g → U g []
  unfolding perform_file
  primitives_step t f g h e = let c = counted (length f.primitives) f g (nat_le limits.cells (length f.primitives)) refl e in subst (λ z. U z []) c.0 (h, c.1)

  passes : (t : Left) (name : List ℕ) (opened : Opened) (f g : FileText) (long is known : Bool) → is_too_long limits name ≡ long → is_name name ≡ is → is_known name f.names ≡ known
      → ◌≡◌ {A = FileOutcome} (if long then Err (refusals.TooMany limit_kinds.Name) else if is then (if known then Err (refusals.DoubleName t.token) else Ok (opened_as opened name f)) else Err (refusals.BadName t.token)) (Ok g)
      → (is_name_within limits name ≡ true) × (is_known name f.names ≡ false) × (opened_as opened name f ≡ g)
  passes t name opened f g true is known a b c e = absurd (cc)
  passes t name opened f g false false known a b c e = absurd (cc)
  passes t name opened f g false true true a b c e = absurd (cc)
  passes t name opened f g false true false a b c e = (name_within limits name b a, c, ok_is (opened_as opened name f) g e)

  name_passes : (t : Left) (name : List ℕ) (opened : Opened) (f g : FileText) → name_part limits t name opened f ≡ Ok g
      → (is_name_within limits name ≡ true) × (is_known name f.names ≡ false) × (opened_as opened name f ≡ g)
  unfolding name_part
  name_passes t name opened f g e = passes t name opened f g (is_too_long limits name) (is_name name) (is_known name f.names) refl refl refl e

  named_base : (name : List ℕ) (opened : Opened) (f : FileText) → Base f → Base (opened_as opened name f)
  named_base name opened f h = record {
    few_modules = h.few_modules;
    few_primitives = h.few_primitives;
    modules = h.modules;
    primitives = h.primitives;
    distinct = h.distinct;
    known = all_known_more (names_of f) f.names name h.known;
  }

  named_fresh : (name : List ℕ) (opened : Opened) (f : FileText) → Base f → is_name_within limits name ≡ true → is_known name f.names ≡ false → Fresh (opened_as opened name f)
  named_fresh name opened f h w k = record { name = w; apart = unknown_apart (names_of f) f.names name k h.known; listed = known_last f.names name }

  module_name_step : (t : Left) (f g : FileText) → M f [] → perform_file source limits actions.NameModule t f ≡ Ok g → O g []
  unfolding perform_file
  module_name_step t f g h e =
      let name = content source t.token in
      let p = name_passes t name openings.Module f g e in
      subst (λ z. O z []) p.2 (named_base name openings.Module f h.0, (named_fresh name openings.Module f h.0 p.0 p.1, h.1))

  primitive_name_step : (t : Left) (f g : FileText) → U f [] → perform_file source limits actions.NamePrimitive t f ≡ Ok g → O g []
  unfolding perform_file
  primitive_name_step t f g h e =
      let name = content source t.token in
      let p = name_passes t name openings.Primitive f g e in
      subst (λ z. O z []) p.2 (named_base name openings.Primitive f h.0, (named_fresh name openings.Primitive f h.0 p.0 p.1, h.1))

  line_kept : (line : ℕ) → Leads O (line_rest source limits line) O
  unfolding line_rest
  line_kept line =
      leads_seq O O O _ _
      (leads_many O _ (leads_one O O O (is_beside source line) _ _ (λ x us f g k h e. keep_step (λ z. O z []) x f g h e) (λ x k. leads_none Refusal O)))
      (leads_before Refusal O O (is_off source line) (λ f x us k h. h))

  passed_kept : Leads B (passed_line source limits) O
  unfolding passed_line
  passed_kept = leads_one B O O (λ t. looks.is_macro (look_of source t)) _ _ (λ x us f g k h e. line_step x f g h e) (λ x k. line_kept x.token.span.line)

  module_name_kept : Leads M (module_name source limits) O
  unfolding module_name
  module_name_kept = leads_one M O O (λ t. looks.is_name (look_of source t)) _ _ (λ x us f g k h e. module_name_step x f g h e) (λ x k. leads_none Refusal O)

  primitive_name_kept : Leads U (primitive_name source limits) O
  unfolding primitive_name
  primitive_name_kept = leads_one U O O (λ t. looks.is_name (look_of source t)) _ _ (λ x us f g k h e. primitive_name_step x f g h e) (λ x k. leads_none Refusal O)

  outside_kept : Leads B (outside source limits) O
  unfolding outside
  outside_kept =
      leads_alt B O _ _ passed_kept
      (leads_alt B O _ _
      (leads_one B M O (λ t. looks.is_module (look_of source t)) _ _ (λ x us f g k h e. modules_step x f g h e) (λ x k. module_name_kept))
      (leads_alt B O _ _
      (leads_one B U O (λ t. looks.is_primitive (look_of source t)) _ _ (λ x us f g k h e. primitives_step x f g h e) (λ x k. primitive_name_kept))
      (leads_one B O O (λ t. looks.is_end (look_of source t)) _ _ (λ x us f g k h e. end_step x f g h e) (λ x k. leads_none Refusal O))))

  rest_alone : (p : Look → Bool) → Leads B (act source limits p actions.Keep none) B
  rest_alone p = leads_one B B B (λ t. p (look_of source t)) _ _ (λ x us f g k h e. keep_step Base x f g h e) (λ x k. leads_none Refusal B)

  rest_kept : Leads B (part_rest source limits) B
  unfolding part_rest unread
  rest_kept = leads_seq B B B _ _ (leads_many B _ (rest_alone looks.is_unread)) (rest_alone looks.is_part_end)

  -- ---- what parts add

  few_more : {A : Type 0} (xs : List A) (x : A) → suc (length xs) ≤ limits.cells → length (xs ++ x ∷ []) ≤ limits.cells
  few_more xs x h = subst (λ z. z ≤ limits.cells) (sym (length_more xs x)) h

  abbrev with_module : FileText → ModulePart → FileText
  with_module f p = record f { modules = f.modules ++ p ∷ []; name = [] }

  abbrev with_udp : FileText → UdpPart → FileText
  with_udp f p = record f { primitives = f.primitives ++ p ∷ []; name = [] }

  add_module : (f : FileText) (p : ModulePart) → Base f → Ready openings.Module f → name_of_module p ≡ f.name → is_module_part limits p ≡ true → Base (with_module f p)
  add_module f p h r n k =
      let a : List (List ℕ) = map name_of_module f.modules in
      let b : List (List ℕ) = map name_of_udp f.primitives in
      let at : (a ++ f.name ∷ []) ++ b ≡ names_of (with_module f p) = ap (λ z. z ++ b) (ap (λ z. a ++ z ∷ []) (sym n) ∙ sym (map_more name_of_module f.modules p)) in
      record {
        few_modules = few_more f.modules p r.1;
        few_primitives = h.few_primitives;
        modules = all_more (is_module_part limits) f.modules p h.modules k;
        primitives = h.primitives;
        distinct = subst (λ z. is_distinct z ≡ true) at (distinct_between a b f.name h.distinct r.0.apart);
        known = subst (λ z. list_all (λ n. is_known n f.names) z ≡ true) at (all_between (λ n. is_known n f.names) a b f.name h.known r.0.listed);
      }

  add_udp : (f : FileText) (p : UdpPart) → Base f → Ready openings.Primitive f → name_of_udp p ≡ f.name → is_udp_part limits p ≡ true → Base (with_udp f p)
  add_udp f p h r n k =
      let a : List (List ℕ) = map name_of_module f.modules in
      let b : List (List ℕ) = map name_of_udp f.primitives in
      let at : (a ++ b) ++ f.name ∷ [] ≡ names_of (with_udp f p) =
      sym (append_assoc a b (f.name ∷ [])) ∙ ap (λ z. a ++ z) (ap (λ z. b ++ z ∷ []) (sym n) ∙ sym (map_more name_of_udp f.primitives p)) in
      record {
        few_modules = h.few_modules;
        few_primitives = few_more f.primitives p r.1;
        modules = h.modules;
        primitives = all_more (is_udp_part limits) f.primitives p h.primitives k;
        distinct = subst (λ z. is_distinct z ≡ true) at (is_distinct-push (a ++ b) f.name h.distinct r.0.apart);
        known = subst (λ z. list_all (λ n. is_known n f.names) z ≡ true) at (all_more (λ n. is_known n f.names) (a ++ b) f.name h.known r.0.listed);
      }

  abbrev NextKept : Next → Type 0
  NextKept (Goes f ts) = Base f
  NextKept (Skips f ts) = Base f
  NextKept (Stops e) = Unit {0}

  abbrev Adds : (List ℕ → ℕ → FileText) → Type 0
  Adds add = (word : List ℕ) (line : ℕ) → is_shown word ≡ true → Base (add word line)

  with_kept : (add : List ℕ → ℕ → FileText) (word : List ℕ) (ts : List Left) → Adds add → is_shown word ≡ true → NextKept (refused_with add word ts)
  with_kept add word [] h w = h word 0 w
  with_kept add word (t ∷ ts) h w = h word t.token.span.line w

  either : (b : Bool) (x y : Next) → NextKept x → NextKept y → NextKept (if b then x else y)
  either true x y g h = g
  either false x y g h = h

  at_kept : (add : List ℕ → ℕ → FileText) (ts : List Left) → Adds add → NextKept (refused_at source limits add ts)
  at_kept add [] h = tt
  at_kept add (t ∷ ts) h = either (is_passed (look_of source t)) _ _ (with_kept add (word_of source t) (t ∷ ts) h (word_shown source t)) tt

  here_kept : (add : List ℕ → ℕ → FileText) (ts : List Left) → Adds add → HasItem ts → NextKept (refused_with add (word_of_first source ts) ts)
  here_kept add [] h k = absurd k
  here_kept add (t ∷ ts) h k = with_kept add (word_of source t) (t ∷ ts) h (word_shown source t)

  stop_kept : (add : List ℕ → ℕ → FileText) (stop : Stop Left Refusal) → Adds add → StopTells stop → NextKept (stopped_part source limits add stop)
  stop_kept add (syntax ts) h k = at_kept add ts h
  stop_kept add (refusal refusals.Here ts) h k = here_kept add ts h k.1
  stop_kept add (refusal (refusals.NoDirection name) ts) h k = with_kept add name ts h k.0
  stop_kept add (refusal (refusals.TooMany kind) ts) h k = tt
  stop_kept add (refusal (refusals.BadName t) ts) h k = tt
  stop_kept add (refusal (refusals.DoubleName t) ts) h k = tt

  module_refused : (f : FileText) → Base f → Ready openings.Module f → Adds (refused_module f)
  unfolding refused_module
  module_refused f h r word line w = let name = r.0.name in add_module f (module_parts.Refused f.name word line) h r refl (rw (name, w) refl)

  udp_refused : (f : FileText) → Base f → Ready openings.Primitive f → Adds (refused_udp f)
  unfolding refused_udp
  udp_refused f h r word line w = let name = r.0.name in add_udp f (udp_parts.Refused f.name word line) h r refl (rw (name, w) refl)

  module_whole : (f : FileText) (m : ModuleText) → Base f → Ready openings.Module f → Read limits m → Base (whole_module f m)
  unfolding whole_module
  module_whole f m h r k = add_module f (module_parts.Whole (module_of f.name m)) h r refl (whole_kept limits f.name m r.0.name k)

  udp_whole : (f : FileText) (u : PrimitiveText) → Base f → Ready openings.Primitive f → Base (whole_udp f u)
  unfolding whole_udp
  udp_whole f u h r = add_udp f (udp_parts.Whole (udp_of f.name u)) h r refl r.0.name

  -- ---- the file

  abbrev AnswerKept : FileAnswer → Type 0
  AnswerKept (Ok g) = Base g
  AnswerKept (Err e) = Unit {0}

  refused_kept : (r : FileAnswer) (e : FileRefusal) → r ≡ Err e → AnswerKept r
  refused_kept r e h = subst AnswerKept (sym h) tt

  module _ (n : ℕ) where
    abbrev File : ℕ → FileText → List Left → FileAnswer → Type 0
    File k = IsFile source limits n k

    abbrev Goal : ℕ → Type 0
    Goal k = (f : FileText) (ts : List Left) (r : FileAnswer) → Base f → File k f ts r → AnswerKept r

    rest_answers : (k : ℕ) → Goal k → (f : FileText) (ts : List Left) (o : First FileText) (r : FileAnswer) → Base f → IsFirst (part_rest source limits) f ts o → AfterRest source limits n (File k) o r → AnswerKept r
    rest_answers k goal f ts (Ok x) r h is after = goal x.0 x.1 r (rest_kept f ts x.0 x.1 h is) after
    rest_answers k goal f ts (Err stop) r h is after = refused_kept r _ after

    next_answers : (k : ℕ) → Goal k → (next : Next) (r : FileAnswer) → NextKept next → Then source limits n (File k) next r → AnswerKept r
    next_answers k goal (Goes f ts) r h is = goal f ts r h is
    next_answers k goal (Skips f ts) r h is = rest_answers k goal f ts is.0 r h is.1 is.2
    next_answers k goal (Stops e) r h is = refused_kept r e is

    module_next : (f : FileText) (ts : List Left) (o : First ModuleText) → Base f → Ready openings.Module f → IsFirst (module_body source limits n) no_module ts o → NextKept (after_module source limits f o)
    module_next f ts (Ok x) h r is = module_whole f x.0 h r ((body_kept source limits low high n).takes no_module ts x.0 x.1 (none_held limits) is)
    module_next f ts (Err stop) h r is =
        stop_kept (refused_module f) stop (module_refused f h r)
        (stop_tells (module_body source limits n) (Holds limits) (Read limits) (body_kept source limits low high n) no_module ts stop (none_held limits) is)

    udp_next : (f : FileText) (ts : List Left) (o : First PrimitiveText) → Base f → Ready openings.Primitive f → IsFirst (udp_body source limits) no_udp ts o → NextKept (after_udp source limits f o)
    udp_next f ts (Ok x) h r is = udp_whole f x.0 h r
    udp_next f ts (Err stop) h r is =
        stop_kept (refused_udp f) stop (udp_refused f h r)
        (stop_tells (udp_body source limits) (λ s. Unit {0}) (λ s. Unit {0}) (body_told source limits) no_udp ts stop tt is)

    opens_answers : (k : ℕ) → Goal k → (opened : Opened) (f : FileText) (ts : List Left) (r : FileAnswer) → Base f → Ready opened f → Opens source limits n (File k) opened f ts r → AnswerKept r
    opens_answers k goal openings.Line f ts r h q is = goal f ts r h is
    opens_answers k goal openings.Module f ts r h q is = next_answers k goal (after_module source limits f is.0) r (module_next f ts is.0 h q is.1) is.2
    opens_answers k goal openings.Primitive f ts r h q is = next_answers k goal (after_udp source limits f is.0) r (udp_next f ts is.0 h q is.1) is.2
    opens_answers k goal openings.End f ts r h q is = subst AnswerKept (sym is) h

    outside_answers : (k : ℕ) → Goal k → (f : FileText) (ts : List Left) (o : First FileText) (r : FileAnswer) → Base f → IsFirst (outside source limits) f ts o → AfterOutside source limits n (File k) o r → AnswerKept r
    outside_answers k goal f ts (Ok x) r h is after =
        let out = outside_kept f ts x.0 x.1 h is in
        opens_answers k goal x.0.opened x.0 x.1 r out.0 out.1 after
    outside_answers k goal f ts (Err stop) r h is after = refused_kept r _ after

    files_kept : (k : ℕ) → Goal k
    files_kept zero f ts r h is = absurd is
    files_kept (suc k) f ts r h is = outside_answers k (files_kept k) f ts is.0 r h is.1 is.2

  nothing_kept : Base no_file
  nothing_kept = record { few_modules = omega arith; few_primitives = omega arith; modules = refl; primitives = refl; distinct = refl; known = refl }

  base_kept : (f : FileText) → Base f → IsKept limits (source_of f)
  base_kept f h = record { few_modules = h.few_modules; few_primitives = h.few_primitives; modules = h.modules; primitives = h.primitives; distinct = h.distinct }

  told_kept : (r : FileAnswer) (s : Source) → told r ≡ Ok s → AnswerKept r → IsKept limits s
  told_kept (Ok f) s e h = let is : source_of f ≡ s = cc in subst (IsKept limits) is (base_kept f h)
  told_kept (Err e) s f h = absurd (cc)

  answer_kept : (r : FileAnswer) → IsSource source limits r → AnswerKept r
  answer_kept r is = files_kept (length (left_of source limits) + 1) is.0 no_file (left_of source limits) r nothing_kept is.1

-- What is read of a text, where the words of gates are within the limit of a name, and a name of the limit can be shown.
pub source_kept : (text : List ℕ) (limits : Limits) (source : Source) → 4 ≤ limits.name → limits.name ≤ 128 → IsAnswered text limits (Ok source) → IsKept limits source
source_kept text limits source low high a = told_kept text limits low high a.answer source a.agrees (answer_kept text limits low high a.answer a.is)

-- under the standard limits it is so of each text
pub standard_kept : (text : List ℕ) (source : Source) → IsAnswered text standard (Ok source) → IsKept standard source
standard_kept text source a = source_kept text standard source (omega arith) (omega arith) a
