-- Lists of pins and of findings, item by item.
use Rattle.std.proofs.Common.{◌≡◌, ℕ, ◌+◌, ◌<◌, Bool, true, false, cond, List, [], ◌∷◌, ◌++◌, length, map, get_or, take, Option, Some, None, refl, sym, ◌∙◌, ap, subst, append_assoc, append-nil}
use Rattle.std.specs.Prelude.{filter, is_some, not, ◌||◌}
use Rattle.std.specs.List.{flat_map, list_any, AllByRecursion}
use Rattle.std.specs.List.Sorted.{IsStrictlySortedBy}
use Rattle.std.specs.declared.alloc.Global.{Global}
use Rattle.std.specs.declared.vec.Vec.{Vec}
use Rattle.std.specs.declared.cmp.Ordering.{Ordering}
use Rattle.std.specs.declared.cmp.Ordering.TheVariants.{Less}
use Rattle.std.specs.Ordering.{is_eq, nat_cmp}
use Rattle.std.specs.Cmp.Lexicographic.{slice_cmp}
use Rattle.std.specs.Map.{lookup, keys_of}
use Rattle.std.specs.BTreeMap.{is_at}
use Rattle.std.specs.Str.{bytes_eq}
use Rattle.std.proofs.lemmas.Map.Text.{is_eq-slice_cmp}
use Rattle.std.proofs.lemmas.List.{take_more}
use Rattle.verdict_text.specs.declared.finding.View.{View}
use Rattle.verdict_text.specs.declared.finding.View.TheVariants.{Verilog, Cdl, Lef}
use Rattle.verdict_text.specs.declared.finding.Finding.{Finding}
use Rattle.pin_tables.specs.declared.table.Pin.{Pin}
use Rattle.pin_tables.specs.declared.table.PinTable.{PinTable}
use Rattle.pin_tables.specs.declared.table.Role.{Role}
use Rattle.pin_tables.specs.declared.table.FourViews.{FourViews}
use Rattle.pin_tables.specs.declared.index.PinIndex.{PinIndex}
use Rattle.pin_tables.specs.declared.findings.Lookups.{Lookups}
use Rattle.pin_tables.specs.Tables.{name_of, said_of}
use Rattle.pin_tables.specs.Findings as spec
use Rattle.pin_tables.specs.Index.{IsIndexOf}
use Rattle.pin_tables.specs.Lookups.{pins_in, AreLookups, at_view, at_pin, at_first_pins, unless_seen, Joins, strangers, names_in}
use Rattle.name_index.specs.Places.{is_known}
use Rattle.pin_tables.proofs.Indexes.{joins_through}
use Rattle.pin_tables.proofs.Lookups.{known_said, unknown_said}

pub take_at : {X : Type 0} (xs : List X) (i : ℕ) (x : X) → i < length xs → x ≡ get_or xs i x → take (i + 1) xs ≡ take i xs ++ x ∷ []
take_at xs i x lt e = take_more xs i x lt ∙ ap (λ y. take i xs ++ y ∷ []) (sym e)

-- Pins that Liberty lacks

kept_append : {X : Type 0} (b : Bool) (x : X) (ws zs : List X) → cond b (x ∷ (ws ++ zs)) (ws ++ zs) ≡ cond b (x ∷ ws) ws ++ zs
kept_append true x ws zs = refl
kept_append false x ws zs = refl

pub filter_append : {X : Type 0} (p : X → Bool) (xs ys : List X) → filter p (xs ++ ys) ≡ filter p xs ++ filter p ys
filter_append p [] ys = refl
filter_append p (x ∷ xs) ys = ap (λ zs. cond (p x) (x ∷ zs) zs) (filter_append p xs ys) ∙ kept_append (p x) x (filter p xs) (filter p ys)

pub same_strangers : (liberty pins : List Pin) → strangers (map name_of liberty) pins ≡ spec.unknown_to liberty pins
same_strangers liberty [] = refl
same_strangers liberty (p ∷ pins) =
    ap (λ zs. cond (not (is_known p.name (map name_of liberty))) (p ∷ zs) zs) (same_strangers liberty pins)
    ∙ ap (λ b. cond b (p ∷ spec.unknown_to liberty pins) (spec.unknown_to liberty pins)) (unknown_said liberty p.name)

pub strangers_append : (names : List (List ℕ)) (xs ys : List Pin) → strangers names (xs ++ ys) ≡ strangers names xs ++ strangers names ys
strangers_append names xs ys = filter_append (λ p. not (is_known p.name names)) xs ys

-- the strangers of two lists, one after the other
pub strangers_join : (names : List (List ℕ)) (old mid new : PinIndex) (xs ys zs : List Pin) → zs ≡ xs ++ ys → Joins (strangers names xs) old mid → Joins (strangers names ys) mid new → Joins (strangers names zs) old new
strangers_join names old mid new xs ys zs e h g =
    subst (λ ps. Joins ps old new) (sym (ap (strangers names) e ∙ strangers_append names xs ys)) (joins_through (strangers names xs) (strangers names ys) old mid new h g)

-- Liberty's pins

flat_append : {X Y : Type 0} (f : X → List Y) (xs ys : List X) → flat_map f (xs ++ ys) ≡ flat_map f xs ++ flat_map f ys
flat_append f [] ys = refl
flat_append f (x ∷ xs) ys = ap (λ zs. f x ++ zs) (flat_append f xs ys) ∙ sym (append_assoc (f x) (flat_map f xs) (flat_map f ys))

abbrev first_of : List Pin → Pin → List Pin
first_of before p = cond (is_some (said_of before p.name)) [] (p ∷ [])

first_more : (before xs : List Pin) (p : Pin) → spec.first_pins before (xs ++ p ∷ []) ≡ spec.first_pins before xs ++ first_of (before ++ xs) p
first_more before [] p = append-nil (first_of before p) ∙ ap (λ b. first_of b p) (sym (append-nil before))
first_more before (x ∷ xs) p =
    ap (λ zs. first_of before x ++ zs) (first_more (before ++ x ∷ []) xs p)
    ∙ sym (append_assoc (first_of before x) (spec.first_pins (before ++ x ∷ []) xs) (first_of ((before ++ x ∷ []) ++ xs) p))
    ∙ ap (λ b. (first_of before x ++ spec.first_pins (before ++ x ∷ []) xs) ++ first_of b p) (append_assoc before (x ∷ []) xs)

flat_first : (f : Pin → List Finding) (p : Pin) (b : Bool) → cond b [] (f p) ≡ flat_map f (cond b [] (p ∷ []))
flat_first f p true = refl
flat_first f p false = sym (append-nil (f p))

-- one of Liberty's pins more
pub liberty_step : (lookups : Lookups) (xs : List Pin) (p : Pin) (start old new : List Finding) → old ≡ start ++ at_first_pins lookups xs
    → new ≡ old ++ unless_seen (map name_of xs) lookups p → new ≡ start ++ at_first_pins lookups (xs ++ p ∷ [])
liberty_step lookups xs p start old new e a =
    a ∙ ap (λ zs. zs ++ unless_seen (map name_of xs) lookups p) e
    ∙ ap (λ b. (start ++ at_first_pins lookups xs) ++ cond b [] (at_pin lookups p)) (known_said xs p.name)
    ∙ ap (λ zs. (start ++ at_first_pins lookups xs) ++ zs) (flat_first (at_pin lookups) p (is_some (said_of xs p.name)))
    ∙ append_assoc start (at_first_pins lookups xs) (flat_map (at_pin lookups) (first_of xs p))
    ∙ ap (λ zs. start ++ zs) (sym (flat_append (at_pin lookups) (spec.first_pins [] xs) (first_of xs p)))
    ∙ ap (λ zs. start ++ flat_map (at_pin lookups) zs) (sym (first_more [] xs p))

same_view : (view : View) (table : Option PinTable) (p : Pin) → at_view view (pins_in table) p ≡ spec.at_view view table p
same_view view None p = refl
same_view view (Some table) p = refl

same_pin : (views : FourViews) (lookups : Lookups) (p : Pin) → AreLookups views lookups → at_pin lookups p ≡ spec.at_pin views p
same_pin views lookups p h =
    rw (h.0, h.1, h.2, same_view Verilog views.verilog p, same_view Cdl views.cdl p, same_view Lef views.lef p) refl

pub same_pins : (views : FourViews) (lookups : Lookups) (pins : List Pin) → AreLookups views lookups → flat_map (at_pin lookups) pins ≡ flat_map (spec.at_pin views) pins
same_pins views lookups [] h = refl
same_pins views lookups (p ∷ pins) h = ap (λ zs. at_pin lookups p ++ zs) (same_pins views lookups pins h) ∙ ap (λ zs. zs ++ flat_map (spec.at_pin views) pins) (same_pin views lookups p h)

-- Names in order

abbrev name_cmp : Vec ℕ Global → Vec ℕ Global → Ordering
name_cmp x y = slice_cmp nat_cmp x.items y.items

abbrev items_of : List (Vec ℕ Global) → List (List ℕ)
items_of ks = map (λ k. k.items) ks

all_map : (x : Vec ℕ Global) (ks : List (Vec ℕ Global)) → AllByRecursion (λ y. name_cmp x y ≡ Less) ks → AllByRecursion (λ y. slice_cmp nat_cmp x.items y ≡ Less) (items_of ks)
all_map x [] h = h
all_map x (k ∷ ks) h = (h.0, all_map x ks h.1)

pub sorted_names : (ks : List (Vec ℕ Global)) → IsStrictlySortedBy name_cmp ks → IsStrictlySortedBy (slice_cmp nat_cmp) (items_of ks)
unfolding IsStrictlySortedBy
sorted_names [] h = h
sorted_names (k ∷ ks) h = (all_map k ks h.0, sorted_names ks h.1)

any_here : {X : Type 0} (b : Bool) (x : X) (o : Option X) (c : Bool) → c ≡ is_some o → (b || c) ≡ is_some (cond b (Some x) o)
any_here true x o c h = refl
any_here false x o c h = h

pub any_name : (entries : List (Vec ℕ Global × Role)) (q : List ℕ) → list_any (bytes_eq q) (items_of (keys_of entries)) ≡ is_some (lookup (is_at (λ k. slice_cmp nat_cmp q k.items)) entries)
any_name [] q = refl
any_name (e ∷ entries) q =
    ap (λ b. b || list_any (bytes_eq q) (items_of (keys_of entries))) (sym (is_eq-slice_cmp q e.0.items))
    ∙ any_here (is_eq (slice_cmp nat_cmp q e.0.items)) e.1 (lookup (is_at (λ k. slice_cmp nat_cmp q k.items)) entries) (list_any (bytes_eq q) (items_of (keys_of entries))) (any_name entries q)

-- the names of an index of pins that Liberty lacks
pub are_names : (liberty pins : List Pin) (others : PinIndex) → IsIndexOf (strangers (map name_of liberty) pins) others → IsStrictlySortedBy (slice_cmp nat_cmp) (names_in others) → spec.AreNamesOf (spec.unknown_to liberty pins) (names_in others)
are_names liberty pins others g sorted = (
  sorted,
  λ q. any_name others.roles.entries q ∙ ap is_some (g q) ∙ ap (λ ps. is_some (said_of ps q)) (same_strangers liberty pins),
)

-- the parts of the findings, one after the other
pub findings_are : (views : FourViews) (lookups : Lookups) (liberty : List (List ℕ)) (others : PinIndex) (pins : List Pin) (none absent known found : List Finding)
    → AreLookups views lookups → pins ≡ views.liberty.pins → none ≡ [] → absent ≡ none ++ spec.all_absent views → liberty ≡ map name_of pins → known ≡ absent ++ at_first_pins lookups pins
    → IsIndexOf (strangers liberty (spec.viewed_pins views)) others → found ≡ known ++ map spec.lacking (names_in others) → IsStrictlySortedBy (slice_cmp nat_cmp) (names_in others)
    → spec.ArePinFindings views found
findings_are views lookups liberty others pins none absent known found are same empty a names k o f sorted =
    let own : liberty ≡ map name_of views.liberty.pins = names ∙ ap (map name_of) same in (
      names_in others,
      are_names views.liberty.pins (spec.viewed_pins views) others (subst (λ ns. IsIndexOf (strangers ns (spec.viewed_pins views)) others) own o) sorted,
      f ∙ ap (λ zs. zs ++ map spec.lacking (names_in others))
          (k ∙ ap (λ zs. zs ++ at_first_pins lookups pins) (a ∙ ap (λ zs. zs ++ spec.all_absent views) empty)
          ∙ ap (λ zs. spec.all_absent views ++ zs) (same_pins views lookups (spec.first_pins [] pins) are ∙ ap (λ ps. flat_map (spec.at_pin views) (spec.first_pins [] ps)) same)),
    )
