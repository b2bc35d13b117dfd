use Rattle.std.proofs.Common.{◌≡◌, ℕ, suc, ◌+◌, ◌<◌, Bool, true, false, ◌&&◌, List, [], ◌∷◌, length, get_or, drop, refl, ap, sym, ◌∙◌, arith}
use Rattle.std.proofs.lemmas.List.{drop_more, drop_all}
use Rattle.tern_core.specs.declared.tern.Tern.{Tern}
use Rattle.udp_table.specs.declared.symbol.LevelSymbol.{LevelSymbol}
use Rattle.udp_table.specs.Symbols.{covers, covers_all}

and_false : (b : Bool) → (b && false) ≡ false
and_false true = refl
and_false false = refl

-- symbols cover values of their number only
pub covers_all-lengths : (ss : List LevelSymbol) (vs : List Tern) → (length ss ≡ length vs → ⊥) → covers_all ss vs ≡ false
covers_all-lengths [] [] h = absurd (h refl)
covers_all-lengths [] (v ∷ vs) h = refl
covers_all-lengths (s ∷ ss) [] h = refl
covers_all-lengths (s ∷ ss) (v ∷ vs) h = ap (λ b. covers s v && b) (covers_all-lengths ss vs (λ e. h (ap suc e))) ∙ and_false (covers s v)

pub covers_all-long : (ss : List LevelSymbol) (vs : List Tern) → covers_all ss vs ≡ true → length ss ≡ length vs
covers_all-long [] [] h = refl
covers_all-long [] (v ∷ vs) h = cc
covers_all-long (s ∷ ss) [] h = cc
covers_all-long (s ∷ ss) (v ∷ vs) h = elim (covers s v) as (λ b. (b && covers_all ss vs) ≡ true → suc (length ss) ≡ suc (length vs)) [ true ↦ λ k. ap suc (covers_all-long ss vs k) | false ↦ λ k. cc ] h

-- one place on
pub covers_all-more : (ss : List LevelSymbol) (vs : List Tern) (i : ℕ) (s : LevelSymbol) (v : Tern) → i < length ss → i < length vs → s ≡ get_or ss i s → v ≡ get_or vs i v → covers_all (drop i ss) (drop i vs) ≡ (covers s v && covers_all (drop (i + 1) ss) (drop (i + 1) vs))
covers_all-more ss vs i s v h k p q =
    ap (λ xs. covers_all xs (drop i vs)) (drop_more ss i s h) ∙ ap (λ ys. covers_all (get_or ss i s ∷ drop (i + 1) ss) ys) (drop_more vs i v k)
    ∙ ap (λ x. covers x (get_or vs i v) && covers_all (drop (i + 1) ss) (drop (i + 1) vs)) (sym p) ∙ ap (λ y. covers s y && covers_all (drop (i + 1) ss) (drop (i + 1) vs)) (sym q)

pub covers_all-end : (ss : List LevelSymbol) (vs : List Tern) (i : ℕ) → length ss ≡ i → length vs ≡ i → covers_all (drop i ss) (drop i vs) ≡ true
covers_all-end ss vs i p q =
    ap (λ xs. covers_all xs (drop i vs)) (drop_all i ss (omega arith)) ∙ ap (λ ys. covers_all [] ys) (drop_all i vs (omega arith))

pub ruleset loops = (covers_all-lengths, covers_all-more, covers_all-end)
