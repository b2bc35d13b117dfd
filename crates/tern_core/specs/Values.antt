use Rattle.std.specs.Prelude.{ℕ, Bool, true, false, List, [], ◌∷◌, if◌then◌else◌}
use Rattle.tern_core.specs.declared.tern.Tern.{Tern}
use Rattle.tern_core.specs.declared.tern.Tern.TheVariants.{Zero, One, Unknown}

-- Kleene's negation: the other value, where it is known
abbrev pub not_of : Tern → Tern
not_of Zero = One
not_of One = Zero
not_of Unknown = Unknown

-- Kleene's conjunction: 0 where a side is 0, 1 where both are 1
abbrev pub and_of : Tern → Tern → Tern
and_of Zero b = Zero
and_of One b = b
and_of Unknown Zero = Zero
and_of Unknown One = Unknown
and_of Unknown Unknown = Unknown

-- Kleene's disjunction: 1 where a side is 1, 0 where both are 0
abbrev pub or_of : Tern → Tern → Tern
or_of Zero b = b
or_of One b = One
or_of Unknown Zero = Unknown
or_of Unknown One = One
or_of Unknown Unknown = Unknown

-- unknown where a side is, else 1 where the sides differ
abbrev pub xor_of : Tern → Tern → Tern
xor_of Zero b = b
xor_of One b = not_of b
xor_of Unknown b = Unknown

-- the value of both, where they are equal
abbrev pub common_of : Tern → Tern → Tern
common_of Zero Zero = Zero
common_of One One = One
common_of a b = Unknown

-- the value of all, where all are equal
abbrev pub common_of_all : List Tern → Tern
common_of_all [] = Unknown
common_of_all (a ∷ []) = a
common_of_all (a ∷ b ∷ rest) = common_of a (common_of_all (b ∷ rest))

-- how a value is printed
abbrev pub symbol_of : Tern → ℕ
symbol_of Zero = 48
symbol_of One = 49
symbol_of Unknown = 88
