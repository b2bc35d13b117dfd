use Rattle.std.proofs.Common.{◌≡◌, ℕ, suc, ◌+◌, ◌<◌, Bool, true, false, ◌&&◌, List, [], ◌∷◌, length, get_or, drop, refl, ap, sym, ◌∙◌, arith}
use Rattle.std.proofs.lemmas.List.{drop_more, drop_all}
use Rattle.udp_table.specs.declared.symbol.LevelSymbol.{LevelSymbol}
use Rattle.udp_table.specs.Overlaps.{overlap, all_overlap}

and_false : (b : Bool) → (b && false) ≡ false
and_false true = refl
and_false false = refl

-- symbols overlap those of their number only
pub all_overlap-lengths : (ss ts : List LevelSymbol) → (length ss ≡ length ts → ⊥) → all_overlap ss ts ≡ false
all_overlap-lengths [] [] h = absurd (h refl)
all_overlap-lengths [] (t ∷ ts) h = refl
all_overlap-lengths (s ∷ ss) [] h = refl
all_overlap-lengths (s ∷ ss) (t ∷ ts) h =
    ap (λ b. overlap s t && b) (all_overlap-lengths ss ts (λ e. h (ap suc e))) ∙ and_false (overlap s t)

-- one place on
pub all_overlap-more : (ss ts : List LevelSymbol) (i : ℕ) (s t : LevelSymbol) → i < length ss → i < length ts → s ≡ get_or ss i s → t ≡ get_or ts i t → all_overlap (drop i ss) (drop i ts) ≡ (overlap s t && all_overlap (drop (i + 1) ss) (drop (i + 1) ts))
all_overlap-more ss ts i s t h k p q =
    ap (λ xs. all_overlap xs (drop i ts)) (drop_more ss i s h) ∙ ap (λ ys. all_overlap (get_or ss i s ∷ drop (i + 1) ss) ys) (drop_more ts i t k)
    ∙ ap (λ x. overlap x (get_or ts i t) && all_overlap (drop (i + 1) ss) (drop (i + 1) ts)) (sym p) ∙ ap (λ y. overlap s y && all_overlap (drop (i + 1) ss) (drop (i + 1) ts)) (sym q)

pub all_overlap-end : (ss ts : List LevelSymbol) (i : ℕ) → length ss ≡ i → length ts ≡ i → all_overlap (drop i ss) (drop i ts) ≡ true
all_overlap-end ss ts i p q =
    ap (λ xs. all_overlap xs (drop i ts)) (drop_all i ss (omega arith)) ∙ ap (λ ys. all_overlap [] ys) (drop_all i ts (omega arith))

pub ruleset loops = (all_overlap-lengths, all_overlap-more, all_overlap-end)
