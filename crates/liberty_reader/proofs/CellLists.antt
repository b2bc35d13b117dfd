-- What a cell makes of its lists, an item further.
use Rattle.std.proofs.Common.{◌≡◌, ℕ, ◌+◌, ◌<◌, ◌≤◌, Bool, true, false, ◌||◌, ◌&&◌, eqb, List, [], ◌∷◌, length, drop, slice_index_or, refl, ap, ◌∙◌, arith}
use Rattle.std.specs.Prelude.{Some, None}
use Rattle.std.proofs.lemmas.List.{drop_more}
use Rattle.std.proofs.lemmas.Bool.{eqb-true}
use Rattle.std.proofs.Math.ListN.{drop_of_length-le}
use Rattle.text_scan.specs.declared.token.Token.{Token}
use Rattle.liberty_statements.specs.declared.statements.Attribute.{Attribute}
use Rattle.liberty_reader.specs.declared.cell.Slots.{Slots}
use Rattle.std.specs.List.{list_all}
use Rattle.liberty_statements.specs.declared.statements.Group.{Group}
use Rattle.liberty_reader.specs.declared.cell.Construct.{Construct}
use Rattle.file_rules.specs.Names.{is_name}
use Rattle.liberty_tokens.specs.Names.{content, is_string, columns}
use Rattle.liberty_reader.specs.Cells.{put, slots_from, bad_arg, bad_column, are_variables, are_strings, at_word, or_first, group_refuses, first_refused, is_state}

pub next_slots : (xs : List Attribute) (at : ℕ) (a : Attribute) (s : Slots) → at < length xs → slots_from (drop at xs) s ≡ slots_from (drop (at + 1) xs) (put (slice_index_or xs at a).kind (slice_index_or xs at a) s)
next_slots xs at a s h = ap (λ z. slots_from z s) (drop_more xs at a h)

pub no_more_slots : (xs : List Attribute) (at : ℕ) (s : Slots) → length xs ≤ at → slots_from (drop at xs) s ≡ s
no_more_slots xs at s h = ap (λ z. slots_from z s) (drop_of_length-le xs h)

pub good_arg : (source : List ℕ) (ts : List Token) (at : ℕ) (t : Token) → at < length ts → is_name (content source (slice_index_or ts at t)) ≡ true → bad_arg source (drop at ts) ≡ bad_arg source (drop (at + 1) ts)
good_arg source ts at t h e = ap (bad_arg source) (drop_more ts at t h) ∙ rw e refl

pub bad_arg_here : (source : List ℕ) (ts : List Token) (at : ℕ) (t : Token) → at < length ts → is_name (content source (slice_index_or ts at t)) ≡ false → bad_arg source (drop at ts) ≡ Some (at_word (slice_index_or ts at t))
bad_arg_here source ts at t h e = ap (bad_arg source) (drop_more ts at t h) ∙ rw e refl

pub no_bad_arg : (source : List ℕ) (ts : List Token) (at : ℕ) → length ts ≤ at → bad_arg source (drop at ts) ≡ None
no_bad_arg source ts at h = ap (bad_arg source) (drop_of_length-le ts h)

pub good_column : (source : List ℕ) (ts : List Token) (at : ℕ) (t : Token) → at < length ts → list_all is_name (columns (content source (slice_index_or ts at t))) ≡ true → bad_column source (drop at ts) ≡ bad_column source (drop (at + 1) ts)
good_column source ts at t h e = ap (bad_column source) (drop_more ts at t h) ∙ rw e refl

pub bad_column_here : (source : List ℕ) (ts : List Token) (at : ℕ) (t : Token) → at < length ts → list_all is_name (columns (content source (slice_index_or ts at t))) ≡ false → bad_column source (drop at ts) ≡ Some (at_word (slice_index_or ts at t))
bad_column_here source ts at t h e = ap (bad_column source) (drop_more ts at t h) ∙ rw e refl

pub no_bad_column : (source : List ℕ) (ts : List Token) (at : ℕ) → length ts ≤ at → bad_column source (drop at ts) ≡ None
no_bad_column source ts at h = ap (bad_column source) (drop_of_length-le ts h)

and_true : (x y : Bool) → (x && (y && true)) ≡ (x && y)
and_true true true = refl
and_true true false = refl
and_true false y = refl

pub two_variables : (source : List ℕ) (ts : List Token) (t u : Token) → length ts ≡ 2 → are_variables source ts ≡ (is_name (content source (slice_index_or ts 0 t)) && is_name (content source (slice_index_or ts 1 u)))
two_variables source [] t u h = absurd (omega arith)
two_variables source (a ∷ []) t u h = absurd (omega arith)
two_variables source (a ∷ b ∷ []) t u h = and_true (is_name (content source a)) (is_name (content source b))
two_variables source (a ∷ b ∷ c ∷ cs) t u h = absurd (omega arith)

pub not_two_variables : (source : List ℕ) (ts : List Token) → (length ts ≡ 2 → ⊥) → are_variables source ts ≡ false
not_two_variables source [] h = refl
not_two_variables source (a ∷ []) h = refl
not_two_variables source (a ∷ b ∷ []) h = absurd (h refl)
not_two_variables source (a ∷ b ∷ c ∷ cs) h = go (eqb (length (a ∷ b ∷ c ∷ cs)) 2) refl
  where
    go : (g : Bool) → eqb (length (a ∷ b ∷ c ∷ cs)) 2 ≡ g → (g && list_all (λ t. is_name (content source t)) (a ∷ b ∷ c ∷ cs)) ≡ false
    go true e = absurd (h (eqb-true (length (a ∷ b ∷ c ∷ cs)) 2 e))
    go false e = refl

pub next_group : (source : List ℕ) (second : Bool) (gs : List Group) (at : ℕ) (g : Group) → at < length gs → group_refuses source second (slice_index_or gs at g) ≡ None
    → first_refused source second (drop at gs) ≡ first_refused source (second || is_state (slice_index_or gs at g).kind) (drop (at + 1) gs)
next_group source second gs at g h e = ap (first_refused source second) (drop_more gs at g h) ∙ ap (λ o. or_first o (first_refused source (second || is_state (slice_index_or gs at g).kind) (drop (at + 1) gs))) e

pub refused_here : (source : List ℕ) (second : Bool) (gs : List Group) (at : ℕ) (g : Group) (c : Construct) → at < length gs → group_refuses source second (slice_index_or gs at g) ≡ Some c
    → first_refused source second (drop at gs) ≡ Some c
refused_here source second gs at g c h e = ap (first_refused source second) (drop_more gs at g h) ∙ ap (λ o. or_first o (first_refused source (second || is_state (slice_index_or gs at g).kind) (drop (at + 1) gs))) e

pub no_group : (source : List ℕ) (second : Bool) (gs : List Group) (at : ℕ) → length gs ≤ at → first_refused source second (drop at gs) ≡ None
no_group source second gs at h = ap (first_refused source second) (drop_of_length-le gs h)

pub two_strings : (ts : List Token) (t u : Token) → length ts ≡ 2 → are_strings ts ≡ (is_string (slice_index_or ts 0 t).kind && is_string (slice_index_or ts 1 u).kind)
two_strings [] t u h = absurd (omega arith)
two_strings (a ∷ []) t u h = absurd (omega arith)
two_strings (a ∷ b ∷ []) t u h = and_true (is_string a.kind) (is_string b.kind)
two_strings (a ∷ b ∷ c ∷ cs) t u h = absurd (omega arith)

pub not_two_strings : (ts : List Token) → (length ts ≡ 2 → ⊥) → are_strings ts ≡ false
not_two_strings [] h = refl
not_two_strings (a ∷ []) h = refl
not_two_strings (a ∷ b ∷ []) h = absurd (h refl)
not_two_strings (a ∷ b ∷ c ∷ cs) h = go (eqb (length (a ∷ b ∷ c ∷ cs)) 2) refl
  where
    go : (g : Bool) → eqb (length (a ∷ b ∷ c ∷ cs)) 2 ≡ g → (g && list_all (λ t. is_string t.kind) (a ∷ b ∷ c ∷ cs)) ≡ false
    go true e = absurd (h (eqb-true (length (a ∷ b ∷ c ∷ cs)) 2 e))
    go false e = refl
