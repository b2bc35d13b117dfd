-- How often numbers stand in a list.
use Rattle.std.specs.Prelude.{ℕ, Bool, List, nat_eq, nat_lt, nat_le, cond}
use Rattle.std.specs.List.{count_by}

-- 1 for true, and else 0
abbrev pub unit_of : Bool → ℕ
unit_of b = cond b 1 0

-- how often x stands in the list
abbrev pub times : ℕ → List ℕ → ℕ
times x numbers = count_by (λ y. nat_eq y x) numbers

-- how many of the numbers are not below n
abbrev pub beyond : ℕ → List ℕ → ℕ
beyond n numbers = count_by (λ y. nat_le n y) numbers

-- 1 where x is below n, and else 0
abbrev pub once_below : ℕ → ℕ → ℕ
once_below x n = unit_of (nat_lt x n)
