-- Groups are entered, an argument further.
use Rattle.std.proofs.Common.{◌≡◌, ℕ, zero, suc, ◌+◌, ◌<◌, ◌≤◌, Bool, true, false, List, [], ◌∷◌, length, drop, leb, slice_index_or, Ok, Err, refl, sym, ap, ◌∙◌, arith}
use Rattle.std.proofs.lemmas.List.{drop_more}
use Rattle.std.proofs.Math.ListN.{drop_of_length-le}
use Rattle.text_scan.specs.declared.token.Token.{Token}
use Rattle.text_scan.specs.declared.limits.Limits.{Limits}
use Rattle.text_scan.specs.declared.limits.LimitKind.TheVariants as limit_kinds
use Rattle.grammar.specs.Reading.{◌>>=◌}
use Rattle.liberty_statements.specs.declared.halt.Refusal.TheVariants as refusals
use Rattle.liberty_statements.specs.declared.statements.Statements.{Statements}
use Rattle.std.proofs.lemmas.Bool.{leb-true}
use Rattle.liberty_tokens.specs.Looks.{text}
use Rattle.liberty_tokens.specs.Words.{is_cell}
use Rattle.liberty_tokens.specs.Names.{content}
use Rattle.liberty_statements.specs.Actions.{nested, enter_cell, enter_named_cell, enter_in_library, add_pin_name, add_pin_names, is_long_variable, has_long_variable, is_long_row, has_long_row}

pub nested_none : (n : ℕ) (s : Statements) → n ≡ 0 → nested n s ≡ Err (refusals.TooMany limit_kinds.Nesting)
unfolding nested
nested_none n s h = rw h refl

pub nested_some : (n : ℕ) (s : Statements) → (n ≡ 0 → ⊥) → nested n s ≡ Ok s
unfolding nested
nested_some zero s h = absurd (h refl)
nested_some (suc n) s h = refl

pub next_pin_name : (source : List ℕ) (limits : Limits) (ts : List Token) (at : ℕ) (t : Token) (names : List (List ℕ)) → at < length ts
    → add_pin_names source limits (drop at ts) names ≡ (add_pin_name source limits (slice_index_or ts at t) names >>= add_pin_names source limits (drop (at + 1) ts))
next_pin_name source limits ts at t names h = ap (λ z. add_pin_names source limits z names) (drop_more ts at t h)

pub last_pin_name : (source : List ℕ) (limits : Limits) (ts : List Token) (at : ℕ) (names : List (List ℕ)) → length ts ≤ at → add_pin_names source limits (drop at ts) names ≡ Ok names
last_pin_name source limits ts at names h = ap (λ z. add_pin_names source limits z names) (drop_of_length-le ts h)

pub next_variable : (source : List ℕ) (limits : Limits) (ts : List Token) (at : ℕ) (t : Token) → at < length ts → is_long_variable source limits (slice_index_or ts at t) ≡ false
    → has_long_variable source limits (drop at ts) ≡ has_long_variable source limits (drop (at + 1) ts)
next_variable source limits ts at t h e = ap (has_long_variable source limits) (drop_more ts at t h) ∙ rw e refl

pub long_variable : (source : List ℕ) (limits : Limits) (ts : List Token) (at : ℕ) (t : Token) → at < length ts → is_long_variable source limits (slice_index_or ts at t) ≡ true → has_long_variable source limits (drop at ts) ≡ true
long_variable source limits ts at t h e = ap (has_long_variable source limits) (drop_more ts at t h) ∙ rw e refl

pub last_variable : (source : List ℕ) (limits : Limits) (ts : List Token) (at : ℕ) → length ts ≤ at → has_long_variable source limits (drop at ts) ≡ false
last_variable source limits ts at h = ap (has_long_variable source limits) (drop_of_length-le ts h)

pub next_row : (source : List ℕ) (limits : Limits) (ts : List Token) (at : ℕ) (t : Token) → at < length ts → is_long_row source limits (slice_index_or ts at t) ≡ false
    → has_long_row source limits (drop at ts) ≡ has_long_row source limits (drop (at + 1) ts)
next_row source limits ts at t h e = ap (has_long_row source limits) (drop_more ts at t h) ∙ rw e refl

pub long_row : (source : List ℕ) (limits : Limits) (ts : List Token) (at : ℕ) (t : Token) → at < length ts → is_long_row source limits (slice_index_or ts at t) ≡ true → has_long_row source limits (drop at ts) ≡ true
long_row source limits ts at t h e = ap (has_long_row source limits) (drop_more ts at t h) ∙ rw e refl

pub last_row : (source : List ℕ) (limits : Limits) (ts : List Token) (at : ℕ) → length ts ≤ at → has_long_row source limits (drop at ts) ≡ false
last_row source limits ts at h = ap (has_long_row source limits) (drop_of_length-le ts h)

not_within : (m n : ℕ) → n < m → leb m n ≡ false
not_within m n h = go (leb m n) refl
  where
    go : (g : Bool) → leb m n ≡ g → g ≡ false
    go true e = absurd (let less = leb-true m n e in omega arith)
    go false e = refl

pub cell_goes : (source : List ℕ) (limits : Limits) (t : Token) (s : Statements) (name : List ℕ) → length s.cells < limits.cells → name ≡ content source t → enter_cell source limits t s ≡ enter_named_cell limits t name s
unfolding enter_cell
cell_goes source limits t s name h e = rw (not_within limits.cells (length s.cells) h) (ap (λ z. enter_named_cell limits t z s) (sym e))

pub one_arg : (source : List ℕ) (limits : Limits) (args : List Token) (t : Token) (s : Statements) → 1 ≤ length args → length args < 2 → is_cell (text source s.word) ≡ true
    → enter_in_library source limits args s ≡ enter_cell source limits (slice_index_or args 0 t) s
unfolding enter_in_library
one_arg source limits [] t s h e g = absurd (omega arith)
one_arg source limits (u ∷ []) t s h e g = rw g refl
one_arg source limits (u ∷ v ∷ us) t s h e g = absurd (omega arith)
