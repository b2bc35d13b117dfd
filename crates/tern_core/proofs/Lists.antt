use Rattle.std.proofs.Common.{◌≡◌, List, [], ◌∷◌, refl, ap}
use Rattle.tern_core.specs.declared.tern.Tern.{Tern}
use Rattle.tern_core.specs.declared.tern.Tern.TheVariants.{Zero, One, Unknown}
use Rattle.tern_core.specs.Order.{IsAtMost, AreAtMost}

-- each value is at most itself
pub same : (a : Tern) → IsAtMost a a
same Zero = refl
same One = refl
same Unknown = tt

pub equal : (a b : Tern) → IsAtMost a b → IsAtMost b a → a ≡ b
equal Zero b p q = p
equal One b p q = p
equal Unknown Zero p q = cc
equal Unknown One p q = cc
equal Unknown Unknown p q = refl

pub through : (a b c : Tern) → IsAtMost a b → IsAtMost b c → IsAtMost a c
through Zero Zero c p q = q
through Zero One c p q = absurd (cc)
through Zero Unknown c p q = absurd (cc)
through One One c p q = q
through One Zero c p q = absurd (cc)
through One Unknown c p q = absurd (cc)
through Unknown b c p q = tt

-- place by place
pub all_same : (xs : List Tern) → AreAtMost xs xs
all_same [] = tt
all_same (a ∷ xs) = (same a, all_same xs)

pub all_equal : (xs ys : List Tern) → AreAtMost xs ys → AreAtMost ys xs → xs ≡ ys
all_equal [] [] p q = refl
all_equal [] (b ∷ ys) p q = absurd p
all_equal (a ∷ xs) [] p q = absurd p
all_equal (a ∷ xs) (b ∷ ys) p q =
    let head : a ≡ b = equal a b p.0 q.0 in
    let rest : xs ≡ ys = all_equal xs ys p.1 q.1 in
    cc

pub all_through : (xs ys zs : List Tern) → AreAtMost xs ys → AreAtMost ys zs → AreAtMost xs zs
all_through [] [] zs p q = q
all_through [] (b ∷ ys) zs p q = absurd p
all_through (a ∷ xs) [] zs p q = absurd p
all_through (a ∷ xs) (b ∷ ys) [] p q = absurd q
all_through (a ∷ xs) (b ∷ ys) (c ∷ zs) p q = (through a b c p.0 q.0, all_through xs ys zs p.1 q.1)
