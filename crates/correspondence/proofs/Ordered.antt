-- The order of information on lists, from a place on.
use Rattle.std.proofs.Common.{◌≡◌, ◌<◌, ℕ, zero, suc, List, [], ◌∷◌, length, get_or, drop, refl, ap, arith}
use Rattle.tern_core.specs.declared.tern.Tern.{Tern}
use Rattle.tern_core.specs.Order.{IsAtMost, AreAtMost}

-- lists that are ordered have one length
pub as_long : (xs ys : List Tern) → AreAtMost xs ys → length xs ≡ length ys
as_long [] [] h = refl
as_long (x ∷ xs) (y ∷ ys) h = ap suc (as_long xs ys h.1)
as_long [] (y ∷ ys) h = absurd h
as_long (x ∷ xs) [] h = absurd h

-- the values at a place, and those behind it
pub parts : (xs ys : List Tern) (i : ℕ) (d e : Tern) → i < length xs → i < length ys → AreAtMost (drop i xs) (drop i ys)
    → IsAtMost (get_or xs i d) (get_or ys i e) × AreAtMost (drop (suc i) xs) (drop (suc i) ys)
parts [] ys i d e p q h = absurd (omega arith)
parts (x ∷ xs) [] i d e p q h = absurd (omega arith)
parts (x ∷ xs) (y ∷ ys) zero d e p q h = h
parts (x ∷ xs) (y ∷ ys) (suc i) d e p q h = parts xs ys i d e (omega arith) (omega arith) h

pub whole : (xs ys : List Tern) (i : ℕ) (d e : Tern) → i < length xs → i < length ys → IsAtMost (get_or xs i d) (get_or ys i e)
    → AreAtMost (drop (suc i) xs) (drop (suc i) ys) → AreAtMost (drop i xs) (drop i ys)
whole [] ys i d e p q h k = absurd (omega arith)
whole (x ∷ xs) [] i d e p q h k = absurd (omega arith)
whole (x ∷ xs) (y ∷ ys) zero d e p q h k = (h, k)
whole (x ∷ xs) (y ∷ ys) (suc i) d e p q h k = whole xs ys i d e (omega arith) (omega arith) h k

-- behind the last place
pub ended : (xs ys : List Tern) (i : ℕ) → length xs ≡ i → length ys ≡ i → AreAtMost (drop i xs) (drop i ys)
ended [] [] i p q = let e : i ≡ 0 = omega arith in rw e tt
ended [] (y ∷ ys) zero p q = absurd (omega arith)
ended [] (y ∷ ys) (suc i) p q = absurd (omega arith)
ended (x ∷ xs) ys zero p q = absurd (omega arith)
ended (x ∷ xs) [] (suc i) p q = absurd (omega arith)
ended (x ∷ xs) (y ∷ ys) (suc i) p q = ended xs ys i (omega arith) (omega arith)
