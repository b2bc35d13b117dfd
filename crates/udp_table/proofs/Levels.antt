-- Subsets by number, and the levels where their inputs have new values.
use Rattle.std.proofs.Common.{◌≡◌, ℕ, zero, suc, ◌+◌, ◌-◌, ◌*◌, ◌/◌, ◌%◌, ◌^◌, ◌<◌, Bool, true, false, cond, eqb, List, [], ◌∷◌, length, get_or, set, take, drop, refl, ap, sym, ◌∙◌}
use Rattle.std.proofs.Math.Nat.{div-div-eq-div-mul, pow-suc, mod-eq_of_lt, one-mul}
use Rattle.std.proofs.lemmas.Nat.{pow_below}
use Rattle.std.proofs.Math.Numerals.{add-one}
use Rattle.std.proofs.lemmas.List.{drop_more}
use Rattle.tern_core.specs.declared.tern.Tern.{Tern}
use Rattle.tern_core.specs.declared.tern.Tern.TheVariants.{Unknown}
use Rattle.udp_table.specs.declared.states.States.{States}
use Rattle.udp_table.specs.declared.row.Row.{Row}
use Rattle.udp_table.specs.Subsets.{none, union, next_states, members, levels_after, gathered}

pub half : (m i : ℕ) → m / 2 ^ i / 2 ≡ m / 2 ^ (i + 1)
half m i = div-div-eq-div-mul m (2 ^ i) 2 ∙ ap (λ n. m / n) (sym (ap (λ k. 2 ^ k) (add-one i) ∙ pow-suc 2 i))

-- a bit of a machine word
pub shifted : (i : ℕ) → i < 64 → 1 * 2 ^ i % 18446744073709551616 ≡ 2 ^ i
shifted i h = ap (λ n. n % 18446744073709551616) (one-mul (2 ^ i)) ∙ mod-eq_of_lt (pow_below i 64 h)

take_set : {X : Type 0} (n : ℕ) (xs : List X) (i : ℕ) (x : X) → take n (set xs i x) ≡ set (take n xs) i x
take_set zero xs i x = refl
take_set (suc n) [] i x = refl
take_set (suc n) (y ∷ ys) zero x = refl
take_set (suc n) (y ∷ ys) (suc i) x = ap (λ zs. y ∷ zs) (take_set n ys i x)

-- the first of the elements that are left is in the subset, or it isn't
pub members-in : (xs : List ℕ) (m i x : ℕ) → i < length xs → x ≡ get_or xs i x → eqb (m / 2 ^ i % 2) 1 ≡ true → members (drop i xs) (m / 2 ^ i) ≡ x ∷ members (drop (i + 1) xs) (m / 2 ^ (i + 1))
members-in xs m i x h p odd =
    let rest = drop (i + 1) xs in
    ap (λ ys. members ys (m / 2 ^ i)) (drop_more xs i x h ∙ ap (λ y. y ∷ rest) (sym p))
    ∙ ap (λ b. cond b (x ∷ members rest (m / 2 ^ i / 2)) (members rest (m / 2 ^ i / 2))) odd
    ∙ ap (λ q. x ∷ members rest q) (half m i)

pub members-out : (xs : List ℕ) (m i x : ℕ) → i < length xs → x ≡ get_or xs i x → eqb (m / 2 ^ i % 2) 1 ≡ false → members (drop i xs) (m / 2 ^ i) ≡ members (drop (i + 1) xs) (m / 2 ^ (i + 1))
members-out xs m i x h p even =
    let rest = drop (i + 1) xs in
    ap (λ ys. members ys (m / 2 ^ i)) (drop_more xs i x h ∙ ap (λ y. y ∷ rest) (sym p))
    ∙ ap (λ b. cond b (x ∷ members rest (m / 2 ^ i / 2)) (members rest (m / 2 ^ i / 2))) even
    ∙ ap (members rest) (half m i)

-- one place on: the input takes its new value, or it keeps the old one
pub levels_in : (n m i : ℕ) (xs : List ℕ) (new levels : List Tern) (x : ℕ) (v : Tern) → i < length xs → x ≡ get_or xs i x → eqb (m / 2 ^ i % 2) 1 ≡ true → v ≡ get_or new x Unknown → levels_after (members (drop (i + 1) xs) (m / 2 ^ (i + 1))) new (take n (set levels x v)) ≡ levels_after (members (drop i xs) (m / 2 ^ i)) new (take n levels)
levels_in n m i xs new levels x v h p odd w =
    let rest = members (drop (i + 1) xs) (m / 2 ^ (i + 1)) in
    ap (levels_after rest new) (take_set n levels x v ∙ ap (set (take n levels) x) w)
    ∙ ap (λ ys. levels_after ys new (take n levels)) (sym (members-in xs m i x h p odd))

pub levels_out : (n m i : ℕ) (xs : List ℕ) (new levels : List Tern) (x : ℕ) → i < length xs → x ≡ get_or xs i x → eqb (m / 2 ^ i % 2) 1 ≡ false → levels_after (members (drop (i + 1) xs) (m / 2 ^ (i + 1))) new (take n levels) ≡ levels_after (members (drop i xs) (m / 2 ^ i)) new (take n levels)
levels_out n m i xs new levels x h p even =
    ap (λ ys. levels_after ys new (take n levels)) (sym (members-out xs m i x h p even))

double : (i : ℕ) → 2 ^ i * 2 ≡ 2 ^ (i + 1)
double i = sym (ap (λ k. 2 ^ k) (add-one i) ∙ pow-suc 2 i)

module _ (rows : List Row) (old levels : List Tern) (places : List States) (subset : ℕ) (xs : List ℕ) (i x : ℕ) (inside : i < length xs) (here : x ≡ get_or xs i x) (acc : States) where
  abbrev added : States
  added =
      union acc (next_states rows x (get_or old x Unknown) levels (get_or places (subset - 2 ^ i) none))

  one_on : (b : Bool) → eqb (subset / 2 ^ i % 2) 1 ≡ b → gathered rows old levels places subset (drop i xs) (subset / 2 ^ i) (2 ^ i) acc ≡ gathered rows old levels places subset (drop (i + 1) xs) (subset / 2 ^ (i + 1)) (2 ^ (i + 1)) (cond b added acc)
  one_on b bit =
      let rest = drop (i + 1) xs in
      ap (λ ys. gathered rows old levels places subset ys (subset / 2 ^ i) (2 ^ i) acc) (drop_more xs i x inside ∙ ap (λ y. y ∷ rest) (sym here))
      ∙ ap (λ c. gathered rows old levels places subset rest (subset / 2 ^ i / 2) (2 ^ i * 2) (cond c added acc)) bit
      ∙ ap (λ q. gathered rows old levels places subset rest q (2 ^ i * 2) (cond b added acc)) (half subset i)
      ∙ ap (λ w. gathered rows old levels places subset rest (subset / 2 ^ (i + 1)) w (cond b added acc)) (double i)

  -- one place on: the states that are reached through this input come in, or the input isn't in the subset
  pub gathered_in : eqb (subset / 2 ^ i % 2) 1 ≡ true → gathered rows old levels places subset (drop (i + 1) xs) (subset / 2 ^ (i + 1)) (2 ^ (i + 1)) added ≡ gathered rows old levels places subset (drop i xs) (subset / 2 ^ i) (2 ^ i) acc
  gathered_in odd = sym (one_on true odd)

  pub gathered_out : eqb (subset / 2 ^ i % 2) 1 ≡ false → gathered rows old levels places subset (drop (i + 1) xs) (subset / 2 ^ (i + 1)) (2 ^ (i + 1)) acc ≡ gathered rows old levels places subset (drop i xs) (subset / 2 ^ i) (2 ^ i) acc
  gathered_out even = sym (one_on false even)
