-- Models, sizes and transistors of cards, one by one.
use Rattle.std.proofs.Common.{◌≡◌, ℕ, zero, suc, ◌+◌, ◌<◌, inl, inr, Bool, true, false, cond, List, [], ◌∷◌, ◌++◌, length, get_or, take, Option, Some, None, refl, sym, ◌∙◌, ap, subst, arith}
use Rattle.std.specs.Prelude.{find, is_none, IsSomeAnd, slice_get, ◌&&◌}
use Rattle.std.specs.Option.{option_or, option_map_or}
use Rattle.std.specs.Str.{bytes_eq}
use Rattle.std.proofs.lemmas.List.Folds.{find-append}
use Rattle.std.proofs.lemmas.Option.{get_or_from_slice_get}
use Rattle.circuit.specs.declared.netlist.Transistor.{Transistor as Card}
use Rattle.circuit.specs.declared.tech.ModelCard.{ModelCard}
use Rattle.circuit.specs.declared.tech.Size.{Size}
use Rattle.switch_response.specs.declared.naming.Place.{Place}
use Rattle.switch_response.specs.declared.naming.Place.TheVariants.{Storage, Input}
use Rattle.switch_response.specs.declared.naming.Ends.{Ends}
use Rattle.switch_response.specs.declared.name_index.NameIndex.{NameIndex}
use Rattle.switch_response.specs.declared.transistor.Transistor.{Transistor}
use Rattle.switch_response.specs.NameIndex.{found}
use Rattle.switch_response.specs.Wiring.{model_of, size_of, channel_of, StandsFor, AllStandFor}
use Rattle.switch_response.specs.Places.{Indexes, IsPlaceOf, AreEndsOf, number_of, IsModelAt, AreModels, is_named, is_size_of}
use Rattle.switch_response.proofs.NameLists.{position_at, position_none, get_front, get_back, get_push, take_at, eq_back}

-- Sizes

pub size_within : (sizes : List Size) (cell name : List ℕ) (index : NameIndex) (place : ℕ) → Indexes (is_size_of cell) sizes index → Some place ≡ found index name → place < length sizes
size_within sizes cell name index place h e =
    let r = position_at (is_size_of cell name) 0 place sizes (sym (e ∙ h name)) in
    (let k = r.1 in let lt = r.4 in omega arith)

strength_from : (o : Option Size) (s : ℕ) → IsSomeAnd o (λ z. s ≡ z.strength) → option_map_or (λ z. z.strength) o 1 ≡ s
strength_from None s h = absurd h
strength_from (Some z) s h = sym h

-- the size that the index finds
pub size_found : (sizes : List Size) (cell name : List ℕ) (index : NameIndex) (place s : ℕ) → Indexes (is_size_of cell) sizes index → Some place ≡ found index name → IsSomeAnd (slice_get sizes place) (λ z. s ≡ z.strength) → s ≡ size_of sizes cell name
size_found sizes cell name index place s h e at =
    let r = position_at (is_size_of cell name) 0 place sizes (sym (e ∙ h name)) in
    let k : place ≡ r.0 = (let k = r.1 in omega arith) in
    let g : find (is_size_of cell name) sizes ≡ slice_get sizes place = r.2 ∙ ap (slice_get sizes) (sym k) in
    sym (ap (λ o. option_map_or (λ z. z.strength) o 1) g ∙ strength_from (slice_get sizes place) s at)

-- no size
pub size_missing : (sizes : List Size) (cell name : List ℕ) (index : NameIndex) → Indexes (is_size_of cell) sizes index → None ≡ found index name → 1 ≡ size_of sizes cell name
size_missing sizes cell name index h e =
    sym (ap (λ o. option_map_or (λ z. z.strength) o 1) (position_none (is_size_of cell name) 0 sizes (sym (e ∙ h name))))

and_false : (a b : Bool) → a ≡ false → (a && b) ≡ false
and_false true b h = absurd (cc)
and_false false b h = refl

and_true : (a b : Bool) → a ≡ true → (a && b) ≡ b
and_true true b h = refl
and_true false b h = absurd (cc)

pub other_cell : (cell : List ℕ) (size : Size) → bytes_eq cell size.cell ≡ false → (q : List ℕ) → is_size_of cell q size ≡ false
other_cell cell size h q = and_false (bytes_eq cell size.cell) (bytes_eq q size.node) h

pub this_cell : (cell : List ℕ) (size : Size) → bytes_eq cell size.cell ≡ true → (q : List ℕ) → is_size_of cell q size ≡ bytes_eq size.node q
this_cell cell size h q = and_true (bytes_eq cell size.cell) (bytes_eq q size.node) h ∙ eq_back q size.node

-- Models

pub model_found : (models : List ModelCard) (card : Card) (index : NameIndex) (place : ℕ) → Indexes is_named models index → Some place ≡ found index card.model → IsModelAt models card place
model_found models card index place h e =
    let r = position_at (is_named card.model) 0 place models (sym (e ∙ h card.model)) in
    let k : place ≡ r.0 = (let k = r.1 in omega arith) in
    record { within = (let lt = r.4 in omega arith); model = r.2 ∙ ap (slice_get models) (sym k) }

none_within : {X : Type 0} (xs : List X) (k : ℕ) → k < length xs → is_none (slice_get xs k) ≡ false
none_within [] k h = absurd (omega arith)
none_within (x ∷ xs) zero h = refl
none_within (x ∷ xs) (suc k) h = none_within xs k (omega arith)

pub model_known : (models : List ModelCard) (card : Card) (place : ℕ) → IsModelAt models card place → is_none (model_of models card.model) ≡ false
model_known models card place h = ap is_none h.model ∙ none_within models place h.within

pub model_missing : (models : List ModelCard) (card : Card) (index : NameIndex) → Indexes is_named models index → None ≡ found index card.model → is_none (model_of models card.model) ≡ true
model_missing models card index h e = ap is_none (position_none (is_named card.model) 0 models (sym (e ∙ h card.model)))

-- one card more
pub models_push : (models : List ModelCard) (cards : List Card) (places : List ℕ) (card : Card) (place : ℕ) → AreModels models cards places → card ≡ get_or cards (length places) card → IsModelAt models card place → AreModels models cards (places ++ place ∷ [])
models_push models cards places card place all is m k c p at got = elim (get_push places place p k got) [
  | inl g ↦ all k c p at g
  | inr g ↦
      let same : c ≡ card = sym (get_or_from_slice_get cards k c card at) ∙ ap (λ j. get_or cards j card) g.0 ∙ sym is in
      subst (λ c. IsModelAt models c p) (sym same) (subst (IsModelAt models card) g.1 m)
]

module _ {X : Type 0} (p : X → Bool) where
  pub find_more : (xs : List X) (k : ℕ) (x : X) → find p (take k xs) ≡ None → k < length xs → x ≡ get_or xs k x → p x ≡ false → find p (take (k + 1) xs) ≡ None
  find_more xs k x h lt is f =
      ap (find p) (take_at xs k x lt is) ∙ find-append p (take k xs) (x ∷ []) ∙ ap (λ o. option_or o (cond (p x) (Some x) None)) h ∙ ap (λ b. cond b (Some x) None) f

  here : (b : Bool) (x y : X) (o f : Option X) → cond b (Some y) o ≡ None → (o ≡ None → f ≡ Some x) → cond b (Some y) f ≡ Some x
  here true x y o f h g = absurd (cc)
  here false x y o f h g = g h

  pub find_here : (xs : List X) (k : ℕ) (x : X) → find p (take k xs) ≡ None → k < length xs → x ≡ get_or xs k x → p x ≡ true → find p xs ≡ Some x
  find_here [] k x h lt is t = absurd (omega arith)
  find_here (y ∷ ys) zero x h lt is t = ap (λ b. cond b (Some y) (find p ys)) (subst (λ z. p z ≡ true) is t) ∙ ap Some (sym is)
  find_here (y ∷ ys) (suc k) x h lt is t = here (p y) x y (find p (take k ys)) (find p ys) h (λ g. find_here ys k x g (omega arith) is t)

-- Transistors

pub number_stands : (names before : List (List ℕ)) (name : List ℕ) (place : Place) (number : ℕ) → number ≡ number_of (length names) place → IsPlaceOf names before name place → slice_get (names ++ before) number ≡ Some name
number_stands names before name (Storage k) number e h = subst (λ n. slice_get (names ++ before) n ≡ Some name) (sym e) (get_front names before k name h)
number_stands names before name (Input k) number e h = subst (λ n. slice_get (names ++ before) n ≡ Some name) (sym e) (get_back names before k name h)

pub stands_for : (models : List ModelCard) (names before : List (List ℕ)) (card : Card) (ends : Ends) (place storage : ℕ) (t : Transistor) → length names ≡ storage
    → AreEndsOf names before card ends → IsModelAt models card place
    → IsSomeAnd (slice_get models place) (λ m. (t.channel ≡ channel_of m.p) × (t.strength ≡ m.strength))
    → t.drain ≡ number_of storage ends.drain → t.gate ≡ number_of storage ends.gate → t.source ≡ number_of storage ends.source → StandsFor models (names ++ before) card t
stands_for models names before card ends place storage t e a m is drain gate source = record {
  drain = number_stands names before card.drain ends.drain t.drain (drain ∙ ap (λ n. number_of n ends.drain) (sym e)) a.drain;
  gate = number_stands names before card.gate ends.gate t.gate (gate ∙ ap (λ n. number_of n ends.gate) (sym e)) a.gate;
  source = number_stands names before card.source ends.source t.source (source ∙ ap (λ n. number_of n ends.source) (sym e)) a.source;
  model = subst (λ o. IsSomeAnd o (λ m. (t.channel ≡ channel_of m.p) × (t.strength ≡ m.strength))) (sym m.model) is;
}

pub all_stand_push : (models : List ModelCard) (nodes : List (List ℕ)) (cards : List Card) (ts : List Transistor) (card : Card) (t : Transistor) → AllStandFor models nodes cards ts → StandsFor models nodes card t → AllStandFor models nodes (cards ++ card ∷ []) (ts ++ t ∷ [])
all_stand_push models nodes [] [] card t h s = (s, tt)
all_stand_push models nodes (c ∷ cards) (u ∷ ts) card t h s = (h.0, all_stand_push models nodes cards ts card t h.1 s)
all_stand_push models nodes [] (u ∷ ts) card t h s = absurd h
all_stand_push models nodes (c ∷ cards) [] card t h s = absurd h
