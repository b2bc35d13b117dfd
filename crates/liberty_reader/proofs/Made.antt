-- Pins and cells are made, one further.
use Rattle.std.proofs.Common.{◌≡◌, ℕ, ◌+◌, ◌<◌, ◌≤◌, List, [], ◌∷◌, ◌++◌, length, drop, slice_index_or, refl, sym, ap, ◌∙◌, append_assoc, arith}
use Rattle.std.specs.Prelude.{map}
use Rattle.std.proofs.lemmas.List.{drop_more, append-nil}
use Rattle.std.proofs.Math.ListN.{drop_of_length-le}
use Rattle.text_scan.specs.declared.token.Token.{Token}
use Rattle.liberty_source.specs.declared.LibertyPin.{LibertyPin}
use Rattle.liberty_source.specs.declared.StateGroup.{StateGroup}
use Rattle.liberty_statements.specs.declared.statements.Group.{Group}
use Rattle.liberty_reader.specs.Cells.{pins, pins_of, state, group_state, state_of_two}

pub joined : (xs ys zs : List LibertyPin) → (xs ++ ys) ++ zs ≡ xs ++ (ys ++ zs)
joined xs ys zs = append_assoc xs ys zs

-- what is made of the items from one on
pub more_made : {A B : Type 0} (f : A → B) (made : List B) (ts : List A) (at : ℕ) (t : A) → at < length ts
    → (made ++ f (slice_index_or ts at t) ∷ []) ++ map f (drop (at + 1) ts) ≡ made ++ map f (drop at ts)
more_made f made ts at t h = append_assoc made (f (slice_index_or ts at t) ∷ []) (map f (drop (at + 1) ts)) ∙ ap (λ z. made ++ map f z) (sym (drop_more ts at t h))

pub all_made : {A B : Type 0} (f : A → B) (made : List B) (ts : List A) (at : ℕ) → length ts ≤ at → made ++ map f (drop at ts) ≡ made
all_made f made ts at h = ap (λ z. made ++ map f z) (drop_of_length-le ts h) ∙ append-nil made

pub next_pins : (source : List ℕ) (gs : List Group) (at : ℕ) (g : Group) → at < length gs → pins source (drop at gs) ≡ pins_of source (slice_index_or gs at g) ++ pins source (drop (at + 1) gs)
next_pins source gs at g h = ap (pins source) (drop_more gs at g h)

pub no_more_pins : (source : List ℕ) (gs : List Group) (at : ℕ) → length gs ≤ at → pins source (drop at gs) ≡ []
no_more_pins source gs at h = ap (pins source) (drop_of_length-le gs h)

pub two_args : (source : List ℕ) (g : Group) (ts : List Token) (t u : Token) (before : StateGroup) → length ts ≡ 2 → group_state source g ts before ≡ state_of_two source g (slice_index_or ts 0 t) (slice_index_or ts 1 u) before
unfolding group_state
two_args source g [] t u before h = absurd (omega arith)
two_args source g (a ∷ []) t u before h = absurd (omega arith)
two_args source g (a ∷ b ∷ []) t u before h = refl
two_args source g (a ∷ b ∷ c ∷ cs) t u before h = absurd (omega arith)

pub not_two_args : (source : List ℕ) (g : Group) (ts : List Token) (before : StateGroup) → (length ts ≡ 2 → ⊥) → group_state source g ts before ≡ before
unfolding group_state
not_two_args source g [] before h = refl
not_two_args source g (a ∷ []) before h = refl
not_two_args source g (a ∷ b ∷ []) before h = absurd (h refl)
not_two_args source g (a ∷ b ∷ c ∷ cs) before h = refl

pub next_state : (source : List ℕ) (gs : List Group) (at : ℕ) (g : Group) (before : StateGroup) → at < length gs
    → state source (drop at gs) before ≡ state source (drop (at + 1) gs) (group_state source (slice_index_or gs at g) (slice_index_or gs at g).args before)
next_state source gs at g before h = ap (λ z. state source z before) (drop_more gs at g h)

pub no_more_states : (source : List ℕ) (gs : List Group) (at : ℕ) (before : StateGroup) → length gs ≤ at → state source (drop at gs) before ≡ before
no_more_states source gs at before h = ap (λ z. state source z before) (drop_of_length-le gs h)
