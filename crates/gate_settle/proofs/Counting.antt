-- Claims counted up to two.
use Rattle.std.proofs.Common.{◌≡◌, ℕ, suc, zero, ◌+◌, ◌<◌, ◌≤◌, Bool, true, false, List, [], ◌∷◌, length, map, get_or, min, refl, sym, ◌∙◌, ap, subst, arith}
use Rattle.std.specs.Prelude.{◌==◌, slice_set, slice_index, nat_lt, if◌then◌else◌}
use Rattle.std.proofs.lemmas.List.{get_or-set_same, get_or-set_other}
use Rattle.std.proofs.lemmas.List.Sums.{sum_by-cons}
use Rattle.std.proofs.lemmas.Grind.{common_steps}
use Rattle.std.proofs.Math.ListN.{length-set}
use Rattle.gate_settle.specs.declared.gate.Gate.{Gate}
use Rattle.gate_settle.specs.declared.gate.Given.{Given}
use Rattle.gate_settle.specs.declared.gate.Given.TheVariants.{Pin, Fixed, Floating}
use Rattle.gate_settle.specs.Order.{times, drivers}
use Rattle.gate_settle.specs.Claims.{claim_of, claims_on, counted, claimed, claimed_by}
use Rattle.gate_settle.proofs.Settling.{same_of, apart_of}

pub claimed_long : (os claims : List ℕ) → length (claimed os claims) ≡ length claims
claimed_long [] claims = refl
claimed_long (o ∷ os) claims = claimed_long os (slice_set claims o (counted (slice_index claims o))) ∙ length-set claims o (counted (slice_index claims o))

counted_is : (n : ℕ) → n ≤ 2 → counted n ≡ min 2 (n + 1)
counted_is n h = elim (nat_lt n 2) as (λ v. nat_lt n 2 ≡ v → counted n ≡ min 2 (n + 1)) [
  | true ↦ λ e. let lt : n < 2 = grind (arith, common_steps, e) in let c : counted n ≡ n + 1 = ap (λ v. if v then n + 1 else n) e in omega (arith, lt, c)
  | false ↦ λ e. let ge : 2 ≤ n = grind (arith, common_steps, e) in let c : counted n ≡ n = ap (λ v. if v then n + 1 else n) e in omega (arith, ge, c, h)
] refl

one : Bool → ℕ
one b = if b then 1 else 0

claimed_at : (os claims : List ℕ) (k n : ℕ) → k < length claims → slice_index claims k ≡ min 2 n → slice_index (claimed os claims) k ≡ min 2 (n + times os k)
claimed_at [] claims k n lt h = omega (arith, h)
claimed_at (o ∷ os) claims k n lt h =
    let next : List ℕ = slice_set claims o (counted (slice_index claims o)) in
    let long : length next ≡ length claims = length-set claims o (counted (slice_index claims o)) in
    elim (o == k) as (λ v. (o == k) ≡ v → slice_index (claimed os next) k ≡ min 2 (n + times (o ∷ os) k)) [
      | true ↦ λ e.
          let s : o ≡ k = same_of o k e in
          let t : times (o ∷ os) k ≡ 1 + times os k = ap (λ v. (if v then 1 else 0) + times os k) e in
          let at : slice_index next k ≡ counted (slice_index claims k) = subst (λ m. slice_index (slice_set claims m (counted (slice_index claims m))) k ≡ counted (slice_index claims k)) (sym s) (get_or-set_same claims k (counted (slice_index claims k)) 0 lt) in
          let c : counted (slice_index claims k) ≡ min 2 (slice_index claims k + 1) = counted_is (slice_index claims k) (omega (arith, h)) in
          let r : slice_index (claimed os next) k ≡ min 2 (n + 1 + times os k) = claimed_at os next k (n + 1) (omega arith) (omega (arith, at, c, h)) in
          omega (arith, r, t)
      | false ↦ λ e.
          let t : times (o ∷ os) k ≡ 0 + times os k = ap (λ v. (if v then 1 else 0) + times os k) e in
          let r : slice_index (claimed os next) k ≡ min 2 (n + times os k) = claimed_at os next k n (omega arith) (get_or-set_other claims o k (counted (slice_index claims o)) 0 (apart_of o k e) ∙ h) in
          omega (arith, r, t)
    ] refl

pub by_long : (gates : List Gate) (claims : List ℕ) → length (claimed_by gates claims) ≡ length claims
by_long [] claims = refl
by_long (g ∷ gates) claims = by_long gates (claimed g.outputs claims) ∙ claimed_long g.outputs claims

by_at : (gates : List Gate) (claims : List ℕ) (k n : ℕ) → k < length claims → slice_index claims k ≡ min 2 n → slice_index (claimed_by gates claims) k ≡ min 2 (n + drivers gates k)
by_at [] claims k n lt h = omega (arith, h)
by_at (g ∷ gates) claims k n lt h =
    let long : length (claimed g.outputs claims) ≡ length claims = claimed_long g.outputs claims in
    let c = sum_by-cons (λ x. times x.outputs k) g gates in
    let r : slice_index (claimed_by gates (claimed g.outputs claims)) k ≡ min 2 (n + times g.outputs k + drivers gates k) = by_at gates (claimed g.outputs claims) k (n + times g.outputs k) (omega arith) (claimed_at g.outputs claims k n lt h) in
    omega (arith, r, c)

first_at : (given : List Given) (k : ℕ) → k < length given → slice_index (map claim_of given) k ≡ claim_of (get_or given k Floating)
first_at [] k lt = absurd (omega arith)
first_at (x ∷ given) zero lt = refl
first_at (x ∷ given) (suc k) lt = first_at given k (omega arith)

small : (x : Given) → claim_of x ≤ 1
small x = elim x as (λ y. claim_of y ≤ 1) [ Pin k ↦ omega arith | Fixed v ↦ omega arith | Floating ↦ omega arith ]

map_long : (given : List Given) → length (map claim_of given) ≡ length given
map_long [] = refl
map_long (x ∷ given) = let i : length (map claim_of given) ≡ length given = map_long given in omega (arith, i)

pub claims_long : (given : List Given) (gates : List Gate) → length (claimed_by gates (map claim_of given)) ≡ length given
claims_long given gates = by_long gates (map claim_of given) ∙ map_long given

pub claims_at : (given : List Given) (gates : List Gate) (k : ℕ) → k < length given → slice_index (claimed_by gates (map claim_of given)) k ≡ min 2 (claims_on given gates k)
claims_at given gates k lt =
    let long : length (map claim_of given) ≡ length given = map_long given in
    let f : slice_index (map claim_of given) k ≡ claim_of (get_or given k Floating) = first_at given k lt in
    let s : claim_of (get_or given k Floating) ≤ 1 = small (get_or given k Floating) in
    by_at gates (map claim_of given) k (claim_of (get_or given k Floating)) (omega arith) (omega (arith, f, s))
