-- The loops that list the names of a cell.
use Rattle.std.proofs.Common.{◌≡◌, ℕ, suc, ◌+◌, ◌<◌, ◌≤◌, refl, sym, ◌∙◌, ap, true, false, List, [], ◌∷◌, ◌++◌, length, drop, drop-cons, add-one, get_or, append_assoc}
use Rattle.std.proofs.lemmas.List.{drop_all}
use Rattle.liberty_source.specs.declared.LibertyPin.{LibertyPin}
use Rattle.liberty_function.specs.declared.program.Source.TheVariants as source
use Rattle.liberty_function.specs.Sources.{Named}
use Rattle.liberty_meaning.specs.Names.{inputs_from, internals_of, states_from, internal_source, is_direction_input, is_direction_internal}

pub next_item : {X : Type 0} (xs : List X) (i : ℕ) (x : X) → i < length xs → x ≡ get_or xs i x → drop i xs ≡ x ∷ drop (i + 1) xs
next_item xs i x h is = rw add-one (drop-cons xs i x h ∙ ap (λ k. k ∷ drop (suc i) xs) (sym is))

pub one_on : {X : Type 0} (whole before new : List X) (x : X) (rest : List X) → whole ≡ before ++ x ∷ rest → new ≡ before ++ x ∷ [] → whole ≡ new ++ rest
one_on whole before new x rest e f = e ∙ (rw f (sym (append_assoc before (x ∷ []) rest)))

pub input_here : (k : ℕ) (pins : List LibertyPin) (i : ℕ) (p : LibertyPin) → i < length pins → p ≡ get_or pins i p → is_direction_input p.direction ≡ true → let n : Named = record { name = p.name; source = source.Input k } in inputs_from k (drop i pins) ≡ n ∷ inputs_from (k + 1) (drop (i + 1) pins)
unfolding inputs_from
input_here k pins i p h is t = rw (next_item pins i p h is, t) refl

pub no_input_here : (k : ℕ) (pins : List LibertyPin) (i : ℕ) (p : LibertyPin) → i < length pins → p ≡ get_or pins i p → is_direction_input p.direction ≡ false → inputs_from k (drop i pins) ≡ inputs_from k (drop (i + 1) pins)
unfolding inputs_from
no_input_here k pins i p h is t = rw (next_item pins i p h is, t) refl

pub inputs_end : (k : ℕ) (pins : List LibertyPin) (i : ℕ) → length pins ≤ i → inputs_from k (drop i pins) ≡ []
unfolding inputs_from
inputs_end k pins i h = let d : drop i pins ≡ [] = drop_all i pins h in rw d refl

pub internal_here : (nodes : List (List ℕ)) (pins : List LibertyPin) (i : ℕ) (p : LibertyPin) → i < length pins → p ≡ get_or pins i p → is_direction_internal p.direction ≡ true → let n : Named = record { name = p.name; source = internal_source nodes p.internal_node } in internals_of nodes (drop i pins) ≡ n ∷ internals_of nodes (drop (i + 1) pins)
unfolding internals_of
internal_here nodes pins i p h is t = rw (next_item pins i p h is, t) refl

pub no_internal_here : (nodes : List (List ℕ)) (pins : List LibertyPin) (i : ℕ) (p : LibertyPin) → i < length pins → p ≡ get_or pins i p → is_direction_internal p.direction ≡ false → internals_of nodes (drop i pins) ≡ internals_of nodes (drop (i + 1) pins)
unfolding internals_of
no_internal_here nodes pins i p h is t = rw (next_item pins i p h is, t) refl

pub internals_end : (nodes : List (List ℕ)) (pins : List LibertyPin) (i : ℕ) → length pins ≤ i → internals_of nodes (drop i pins) ≡ []
unfolding internals_of
internals_end nodes pins i h = let d : drop i pins ≡ [] = drop_all i pins h in rw d refl

pub state_here : (k : ℕ) (names : List (List ℕ)) (i : ℕ) (n : List ℕ) → i < length names → n ≡ get_or names i n → let d : Named = record { name = n; source = source.State k } in states_from k (drop i names) ≡ d ∷ states_from (k + 1) (drop (i + 1) names)
unfolding states_from
state_here k names i n h is = rw (next_item names i n h is) refl

pub states_end : (k : ℕ) (names : List (List ℕ)) (i : ℕ) → length names ≤ i → states_from k (drop i names) ≡ []
unfolding states_from
states_end k names i h = let d : drop i names ≡ [] = drop_all i names h in rw d refl
