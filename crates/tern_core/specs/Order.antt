use Rattle.std.specs.Prelude.{◌≡◌, List, [], ◌∷◌}
use Rattle.tern_core.specs.declared.tern.Tern.{Tern}
use Rattle.tern_core.specs.declared.tern.Tern.TheVariants.{Zero, One, Unknown}

-- a is at most as known as b: it is unknown, or it is b
abbrev pub IsAtMost : Tern → Tern → Type 0
IsAtMost Unknown b = Unit {0}
IsAtMost Zero b = Zero ≡ b
IsAtMost One b = One ≡ b

-- place by place, on lists of one length
abbrev pub AreAtMost : List Tern → List Tern → Type 0
AreAtMost [] [] = Unit {0}
AreAtMost (a ∷ xs) (b ∷ ys) = IsAtMost a b × AreAtMost xs ys
AreAtMost [] (b ∷ ys) = ⊥
AreAtMost (a ∷ xs) [] = ⊥

-- an operation keeps the order
abbrev pub IsMonotone : (Tern → Tern) → Type 0
IsMonotone f = (a b : Tern) → IsAtMost a b → IsAtMost (f a) (f b)

abbrev pub IsMonotoneInBoth : (Tern → Tern → Tern) → Type 0
IsMonotoneInBoth f = (a b c d : Tern) → IsAtMost a b → IsAtMost c d → IsAtMost (f a c) (f b d)
