-- Totals over all views, and how often numbers stand in them.
use Rattle.std.proofs.Common.{◌≡◌, ℕ, zero, suc, ◌+◌, ◌-◌, ◌<◌, ◌≤◌, Bool, true, false, cond, ◌&&◌, List, [], ◌∷◌, ◌++◌, length, set, refl, sym, ap, ◌∙◌, arith, nat_eq, nat_lt, nat_le}
use Rattle.std.proofs.lemmas.Bool.Decides.{nat_tests}
use Rattle.std.specs.List.{sum_by, count_by}
use Rattle.std.proofs.lemmas.List.Sums.{sum_by-cons, sum_by-append, sum_by_push}
use mathlib.Core.Option.{some, some-injective, some-ne-none}
use lib.ListN.{get_elem?}
use Rattle.claim_table.specs.Counts.{unit_of, times, beyond, once_below}

module _ {X : Type 0} where
  -- the total after a change of one item
  pub total_set : (f : X → ℕ) (xs : List X) (i : ℕ) (v w : X) → get_elem? xs i ≡ some v → sum_by f (set xs i w) + f v ≡ sum_by f xs + f w
  total_set f [] i v w e = absurd (some-ne-none v (sym e))
  total_set f (x ∷ xs) zero v w e = let p : f x ≡ f v = ap f (some-injective x v e) in omega (arith, sum_by-cons f w xs, sum_by-cons f x xs)
  total_set f (x ∷ xs) (suc i) v w e = omega (arith, sum_by-cons f x (set xs i w), sum_by-cons f x xs, total_set f xs i v w e)

  pub total_at : (f : X → ℕ) (xs : List X) (i : ℕ) (v : X) → get_elem? xs i ≡ some v → f v ≤ sum_by f xs
  total_at f [] i v e = absurd (some-ne-none v (sym e))
  total_at f (x ∷ xs) zero v e = let p : f x ≡ f v = ap f (some-injective x v e) in omega (arith, sum_by-cons f x xs)
  total_at f (x ∷ xs) (suc i) v e = omega (arith, sum_by-cons f x xs, total_at f xs i v e)

  pub total_added : (f g h : X → ℕ) → ((x : X) → h x ≡ f x + g x) → (xs : List X) → sum_by h xs ≡ sum_by f xs + sum_by g xs
  total_added f g h e [] = refl
  total_added f g h e (x ∷ xs) = omega (arith, sum_by-cons f x xs, sum_by-cons g x xs, sum_by-cons h x xs, e x, total_added f g h e xs)

  pub total_le : (f g : X → ℕ) (xs : List X) → ((i : ℕ) (v : X) → get_elem? xs i ≡ some v → f v ≤ g v) → sum_by f xs ≤ sum_by g xs
  total_le f g [] h = omega arith
  total_le f g (x ∷ xs) h = let p : f x ≤ g x = h 0 x refl in let q = total_le f g xs (λ i v e. h (suc i) v e) in omega (arith, sum_by-cons f x xs, sum_by-cons g x xs, q)

  pub total_none : (f : X → ℕ) (xs : List X) → ((i : ℕ) (v : X) → get_elem? xs i ≡ some v → f v ≡ 0) → sum_by f xs ≡ 0
  total_none f [] h = refl
  total_none f (x ∷ xs) h = let p : f x ≡ 0 = h 0 x refl in let q = total_none f xs (λ i v e. h (suc i) v e) in omega (arith, sum_by-cons f x xs, q)

-- how many of the numbers are from n up to n + k
abbrev pub in_span : ℕ → ℕ → List ℕ → ℕ
in_span n k numbers = count_by (λ y. nat_le n y && nat_lt y (n + k)) numbers

span_head : (n k y : ℕ) → unit_of (nat_le n y && nat_lt y (n + suc k)) ≡ unit_of (nat_le n y && nat_lt y (n + k)) + unit_of (nat_eq y (n + k))
span_head n k y = grind (arith, nat_tests)

pub span_more : (n k : ℕ) (numbers : List ℕ) → in_span n (suc k) numbers ≡ in_span n k numbers + times (n + k) numbers
span_more n k numbers = total_added (λ y. unit_of (nat_le n y && nat_lt y (n + k))) (λ y. unit_of (nat_eq y (n + k))) (λ y. unit_of (nat_le n y && nat_lt y (n + suc k))) (span_head n k) numbers

none_head : (n y : ℕ) → unit_of (nat_le n y && nat_lt y (n + 0)) ≡ 0
none_head n y = grind (arith, nat_tests)

pub span_none : (n : ℕ) (numbers : List ℕ) → in_span n 0 numbers ≡ 0
span_none n numbers = total_none (λ y. unit_of (nat_le n y && nat_lt y (n + 0))) numbers (λ i y e. none_head n y)

beyond_head : (n k y : ℕ) → unit_of (nat_le n y && nat_lt y (n + k)) ≤ unit_of (nat_le n y)
beyond_head n k y = grind (arith, nat_tests)

pub span_beyond : (n k : ℕ) (numbers : List ℕ) → in_span n k numbers ≤ beyond n numbers
span_beyond n k numbers = total_le (λ y. unit_of (nat_le n y && nat_lt y (n + k))) (λ y. unit_of (nat_le n y)) numbers (λ i y e. beyond_head n k y)

pub times_push : (x n : ℕ) (numbers : List ℕ) → times x (numbers ++ n ∷ []) ≡ times x numbers + unit_of (nat_eq n x)
times_push x n numbers = sum_by_push (λ y. unit_of (nat_eq y x)) numbers n

pub beyond_push : (c n : ℕ) (numbers : List ℕ) → beyond c (numbers ++ n ∷ []) ≡ beyond c numbers + unit_of (nat_le c n)
beyond_push c n numbers = sum_by_push (λ y. unit_of (nat_le c y)) numbers n

pub times_append : (x : ℕ) (xs ys : List ℕ) → times x (xs ++ ys) ≡ times x xs + times x ys
times_append x xs ys = sum_by-append (λ y. unit_of (nat_eq y x)) xs ys

pub beyond_append : (c : ℕ) (xs ys : List ℕ) → beyond c (xs ++ ys) ≡ beyond c xs + beyond c ys
beyond_append c xs ys = sum_by-append (λ y. unit_of (nat_le c y)) xs ys

pub once_more : (x n : ℕ) → once_below x (n + 1) ≡ once_below x n + unit_of (nat_eq n x)
once_more x n = grind (arith, nat_tests)

pub once_at : (x n : ℕ) → x < n → once_below x n ≡ 1
once_at x n h = grind (arith, nat_tests)

pub once_none : (x n : ℕ) → n ≤ x → once_below x n ≡ 0
once_none x n h = grind (arith, nat_tests)

before : (n x : ℕ) → (n ≤ x → ⊥) → unit_of (nat_le n x) ≡ 0
before n x h = grind (arith, nat_tests)

beyond_cons : (n x : ℕ) (xs : List ℕ) → (n ≤ x → ⊥) → beyond n xs ≡ 0 → beyond n (x ∷ xs) ≡ 0
beyond_cons n x xs h rest = let z : unit_of (nat_le n x) ≡ 0 = before n x h in omega (arith, sum_by-cons (λ y. unit_of (nat_le n y)) x xs)

-- a list in which no number from n on stands
pub beyond_none : (n : ℕ) (numbers : List ℕ) → ((y : ℕ) → n ≤ y → times y numbers ≡ 0) → beyond n numbers ≡ 0
beyond_none n [] h = refl
beyond_none n (x ∷ xs) h = beyond_cons n x xs (λ le. let a = h x le in let one : unit_of (nat_eq x x) ≡ 1 = grind (arith, nat_tests) in omega (arith, sum_by-cons (λ z. unit_of (nat_eq z x)) x xs))
    (beyond_none n xs (λ y le. let a = h y le in omega (arith, sum_by-cons (λ z. unit_of (nat_eq z y)) x xs)))
