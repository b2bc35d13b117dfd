-- What is built is a network.
use Rattle.std.proofs.Common.{◌≡◌, ℕ, zero, suc, ◌+◌, ◌^◌, ◌<◌, ◌≤◌, Bool, true, false, cond, List, [], ◌∷◌, ◌++◌, length, map, get_or, slice_index, Option, Some, None, refl, sym, ◌∙◌, ap, subst, length-append, arith}
use Rattle.std.specs.Prelude.{find, is_some, All, Contains, MatchOption, replicate, slice_get, slice_index_or}
use Rattle.std.specs.List.{list_any, position_from}
use Rattle.std.specs.Option.{option_map_or}
use Rattle.std.specs.Str.{bytes_eq}
use Rattle.std.specs.Cmp.Lexicographic.{nat_list_eq_equiv}
use Rattle.std.proofs.lemmas.List.{length-map, length-replicate, get_or-replicate}
use Rattle.std.proofs.lemmas.List.Elements.{All-append}
use Rattle.std.proofs.lemmas.Map.Views.{list_any-from_Contains}
use Rattle.std.proofs.lemmas.Option.{slice_get_within, slice_get-get_or}
use Rattle.std.proofs.Math.ListN.{get_or-eq_default}
use native.Mathlib.Decide.{dec_lt}
use Rattle.tern_core.specs.declared.tern.Tern.{Tern}
use Rattle.circuit.specs.declared.netlist.Transistor.{Transistor as Card}
use Rattle.circuit.specs.declared.tech.ModelCard.{ModelCard}
use Rattle.circuit.specs.declared.tech.Size.{Size}
use Rattle.switch_response.specs.declared.naming.Place.{Place}
use Rattle.switch_response.specs.declared.naming.Place.TheVariants.{Storage, Input}
use Rattle.switch_response.specs.declared.naming.Ends.{Ends}
use Rattle.switch_response.specs.declared.transistor.Transistor.{Transistor}
use Rattle.switch_response.specs.Walks.{net}
use Rattle.switch_response.specs.Spread.{IsWithin}
use Rattle.switch_response.specs.Network.{IsNetwork}
use Rattle.switch_response.specs.Wiring.{size_of, StandsFor, AllStandFor}
use Rattle.switch_response.specs.Places.{IsPlaceOf, AreAllEnds, number_of, HasNumbers}
use Rattle.switch_response.proofs.NameLists.{name_at, position_any, get_within}

-- Names of nodes

found_or_not : (names : List (List ℕ)) (q : List ℕ) (o : Option ℕ) → o ≡ position_from (bytes_eq q) 0 names → MatchOption o (¬ (Contains names q)) (λ k. slice_get names k ≡ Some q)
found_or_not names q (Some k) e = name_at names q k (sym e)
found_or_not names q None e = λ h.
    let any : list_any (bytes_eq q) names ≡ true = list_any-from_Contains nat_list_eq_equiv q names h in
    let none : is_some (position_from (bytes_eq q) 0 names) ≡ false = ap is_some (sym e) in
    let same : is_some (position_from (bytes_eq q) 0 names) ≡ list_any (bytes_eq q) names = position_any (bytes_eq q) 0 names in
    cc

pub node_found : (names : List (List ℕ)) (q : List ℕ) (o f : Option ℕ) → o ≡ f → f ≡ position_from (bytes_eq q) 0 names → MatchOption o (¬ (Contains names q)) (λ k. slice_get names k ≡ Some q)
node_found names q o f e h = found_or_not names q o (e ∙ h)

-- Numbers

number_fits : (names before : List (List ℕ)) (name : List ℕ) (place : Place) (storage : ℕ) → length names ≡ storage → storage + length before < 2 ^ 64 → IsPlaceOf names before name place → number_of storage place < 2 ^ 64
number_fits names before name (Storage k) storage e fits h = let lt : k < length names = slice_get_within names k name h in omega arith
number_fits names before name (Input k) storage e fits h = let lt : k < length before = slice_get_within before k name h in omega arith

pub have_numbers : (names before : List (List ℕ)) (cards : List Card) (ends : List Ends) (storage : ℕ) → length names ≡ storage → storage + length before < 2 ^ 64 → length ends ≡ length cards → AreAllEnds names before cards ends → All (HasNumbers storage) ends
have_numbers names before cards ends storage e fits count all k d lt =
    let card = get_within cards k (omega arith) in
    let are = all k card.0 (slice_index_or ends k d) card.1 (slice_get-get_or ends k d lt) in
    record {
      drain = number_fits names before _ _ storage e fits are.drain;
      gate = number_fits names before _ _ storage e fits are.gate;
      source = number_fits names before _ _ storage e fits are.source;
    }

-- Strengths

abbrev IsStrength : ℕ → Type 0
IsStrength s = (0 < s) × (s ≤ 8)

all_rest : {X : Type 0} (P : X → Type 0) (x : X) (xs : List X) → All P (x ∷ xs) → All P xs
all_rest P x xs h k d lt = h (suc k) d (omega arith)

size_cases : (b : Bool) (z : Size) (o : Option Size) → IsStrength z.strength → IsStrength (option_map_or (λ z. z.strength) o 1) → IsStrength (option_map_or (λ z. z.strength) (cond b (Some z) o) 1)
size_cases true z o h g = h
size_cases false z o h g = g

size_is_strength : (p : Size → Bool) (sizes : List Size) → All (λ z. (1 ≤ z.strength) × (z.strength ≤ 3)) sizes → IsStrength (option_map_or (λ z. z.strength) (find p sizes) 1)
size_is_strength p [] h = (omega arith, omega arith)
size_is_strength p (z ∷ sizes) h =
    let here = h 0 z (omega arith) in
    size_cases (p z) z (find p sizes) (omega arith, omega arith) (size_is_strength p sizes (all_rest (λ z. (1 ≤ z.strength) × (z.strength ≤ 3)) z sizes h))

all_map : {X : Type 0} (f : X → ℕ) → ((x : X) → IsStrength (f x)) → (xs : List X) → All IsStrength (map f xs)
all_map f h [] k d lt = absurd (omega arith)
all_map f h (x ∷ xs) zero d lt = h x
all_map f h (x ∷ xs) (suc k) d lt = all_map f h xs k d (omega arith)

all_eight : (n : ℕ) → All IsStrength (replicate n 8)
all_eight n k d lt =
    let l : length (replicate {A = ℕ} n 8) ≡ n = length-replicate n 8 in
    let inside : k < n = omega arith in
    let e : get_or (replicate n 8) k d ≡ 8 = get_or-replicate n k 8 d inside in
    (omega arith, omega arith)

pub are_strengths : (sizes : List Size) (cell : List ℕ) (names : List (List ℕ)) (n : ℕ) → All (λ z. (1 ≤ z.strength) × (z.strength ≤ 3)) sizes → All IsStrength (map (size_of sizes cell) names ++ replicate n 8)
are_strengths sizes cell names n h =
    All-append IsStrength (map (size_of sizes cell) names) (replicate n 8) (all_map (size_of sizes cell) (λ x. size_is_strength _ sizes h) names) (all_eight n)

strongest : (strengths : List ℕ) → All IsStrength strengths → (node : ℕ) → slice_index strengths node ≤ 8
strongest strengths h node = elim (dec_lt node (length strengths)) [
  | yes lt ↦ (h node 0 lt).1
  | no ge ↦ let e : slice_index strengths node ≡ 0 = get_or-eq_default strengths 0 (omega arith) in omega arith
]

-- Transistors

stands_within : (models : List ModelCard) (nodes : List (List ℕ)) (card : Card) (t : Transistor) → StandsFor models nodes card t → IsWithin (length nodes) t
stands_within models nodes card t h = (slice_get_within nodes t.gate _ h.gate, slice_get_within nodes t.drain _ h.drain, slice_get_within nodes t.source _ h.source)

pub all_within : (models : List ModelCard) (nodes : List (List ℕ)) (cards : List Card) (ts : List Transistor) → AllStandFor models nodes cards ts → All (IsWithin (length nodes)) ts
all_within models nodes cards [] h k d lt = absurd (omega arith)
all_within models nodes (card ∷ cards) (t ∷ ts) h zero d lt = stands_within models nodes card t h.0
all_within models nodes (card ∷ cards) (t ∷ ts) h (suc k) d lt = all_within models nodes cards ts h.1 k d (omega arith)
all_within models nodes [] (t ∷ ts) h k d lt = absurd h

-- The network

pub count_of_strengths : (sizes : List Size) (cell : List ℕ) (names : List (List ℕ)) (n : ℕ) (strengths : List ℕ) → strengths ≡ map (size_of sizes cell) names ++ replicate n 8 → length strengths ≡ length names + n
count_of_strengths sizes cell names n strengths is = ap length is ∙ simp (length-append, length-map, length-replicate)

pub is_network : (sizes : List Size) (cell : List ℕ) (models : List ModelCard) (names before : List (List ℕ)) (cards : List Card) (pins : ℕ) (supplies : List Tern) (strengths : List ℕ) (ts : List Transistor)
    → All (λ z. (1 ≤ z.strength) × (z.strength ≤ 3)) sizes → strengths ≡ map (size_of sizes cell) names ++ replicate (length before) 8 → length before ≡ pins + length supplies
    → AllStandFor models (names ++ before) cards ts → IsNetwork (record { names = names; pins = pins; supplies = supplies; net = net (length names) strengths ts })
is_network sizes cell models names before cards pins supplies strengths ts ok is count stand =
    let all : All IsStrength strengths = subst (All IsStrength) (sym is) (are_strengths sizes cell names (length before) ok) in
    let nodes : length strengths ≡ length names + length before = count_of_strengths sizes cell names (length before) strengths is in
    let both : length (names ++ before) ≡ length strengths = length-append names before ∙ sym nodes in
    record {
      network = record {
        storage = omega arith;
        positive = λ node lt. (all node 0 lt).0;
        strongest = strongest strengths all;
      };
      named = refl;
      nodes = omega arith;
      within = subst (λ n. All (IsWithin n) ts) both (all_within models (names ++ before) cards ts stand);
    }
