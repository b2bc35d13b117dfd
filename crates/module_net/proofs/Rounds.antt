-- Going on from net to net, where there are finitely many, leads round.
use Rattle.std.proofs.Common.{◌≡◌, ℕ, suc, zero, ◌+◌, ◌<◌, ◌⊎◌, inl, inr, Bool, true, false, List, [], ◌∷◌, length, refl, sym, ap, subst, arith}
use Rattle.std.specs.Prelude.{not, slice_set, sum_by, replicate}
use Rattle.std.proofs.lemmas.List.Sums.{sum_by-cons}
use Rattle.gate_settle.specs.declared.gate.Gate.{Gate}
use Rattle.gate_settle.specs.Order.{is_known, is_fed_by, DependsOn, directly, through}
use Rattle.module_net.proofs.Arranged.{one_if}

depends_trans : (gates : List Gate) {a b c : ℕ} → DependsOn gates a b → DependsOn gates b c → DependsOn gates a c
depends_trans gates (directly f) k = through f k
depends_trans gates (through f h) k = through f (depends_trans gates h k)

-- how many marks are off
unfoldable off : List Bool → ℕ
off marks = sum_by (λ b. one_if (not b)) marks

off_set : (marks : List Bool) (k : ℕ) → is_known marks k ≡ false → off (slice_set marks k true) + 1 ≡ off marks
unfolding off
off_set [] k h = absurd (cc)
off_set (b ∷ marks) zero h =
    let x = sum_by-cons (λ b. one_if (not b)) b marks in
    let y = sum_by-cons (λ b. one_if (not b)) true marks in
    let e : one_if (not b) ≡ 1 = ap (λ v. one_if (not v)) h in
    omega (arith, x, y, e)
off_set (b ∷ marks) (suc k) h =
    let x = sum_by-cons (λ b. one_if (not b)) b marks in
    let y = sum_by-cons (λ b. one_if (not b)) b (slice_set marks k true) in
    let i = off_set marks k h in
    omega (arith, x, y, i)

set_seen : (seen : List Bool) (b s : ℕ) → is_known seen b ≡ false → is_known (slice_set seen b true) s ≡ true → (s ≡ b) ⊎ (is_known seen s ≡ true)
set_seen [] b s u h = inr refl
set_seen (x ∷ seen) zero zero u h = inl refl
set_seen (x ∷ seen) zero (suc s) u h = inr h
set_seen (x ∷ seen) (suc b) zero u h = inr h
set_seen (x ∷ seen) (suc b) (suc s) u h = elim (set_seen seen b s u h) [ inl e ↦ inl (ap suc e) | inr k ↦ inr k ]

none_seen : (n s : ℕ) → s < n → is_known (replicate n false) s ≡ false
none_seen zero s less = absurd (omega arith)
none_seen (suc n) zero less = refl
none_seen (suc n) (suc s) less = none_seen n s (omega arith)

pub within : (marks : List Bool) (s : ℕ) → is_known marks s ≡ false → s < length marks
within [] s h = absurd (cc)
within (b ∷ marks) zero h = omega arith
within (b ∷ marks) (suc s) h = let i : s < length marks = within marks s h in omega arith

-- the nets whose marks are off
module _ (gates : List Gate) (marks : List Bool) where
  -- what has been seen of them depends on a, or is a
  abbrev pub Leads : List Bool → ℕ → Type 0
  Leads seen a = (s : ℕ) → is_known seen s ≡ true → is_known marks s ≡ false → (s ≡ a) ⊎ DependsOn gates s a

  abbrev pub Round : Type 0
  Round = (k : ℕ) × (is_known marks k ≡ false) × DependsOn gates k k

  leads_on : (seen : List Bool) (a b : ℕ) → is_fed_by gates a b ≡ true → is_known seen b ≡ false → Leads seen a → Leads (slice_set seen b true) b
  leads_on seen a b f u leads s h v =
      elim (set_seen seen b s u h) [
        | inl e ↦ inl e
        | inr k ↦ inr (elim (leads s k v) [
          | inl same ↦ directly (subst (λ n. is_fed_by gates n b ≡ true) (sym same) f)
          | inr far ↦ depends_trans gates far (directly f)
        ])
      ]

  closes : (seen : List Bool) (a b : ℕ) → is_fed_by gates a b ≡ true → is_known marks b ≡ false → is_known seen b ≡ true → Leads seen a → Round
  closes seen a b f u e leads = (
    b,
    u,
    elim (leads b e u) [
      | inl same ↦ directly (subst (λ n. is_fed_by gates n b ≡ true) (sym same) f)
      | inr far ↦ depends_trans gates far (directly f)
    ],
  )

  round : (fuel : ℕ) (seen : List Bool) (a : ℕ) → off seen ≡ fuel → ((a : ℕ) → is_known marks a ≡ false → (b : ℕ) × (is_fed_by gates a b ≡ true) × (is_known marks b ≡ false)) → is_known marks a ≡ false → Leads seen a → Round
  round zero seen a o goes u leads =
      let next = goes a u in
      elim (is_known seen next.0) as (λ v. is_known seen next.0 ≡ v → Round) [
        | true ↦ λ e. closes seen a next.0 next.1 next.2 e leads
        | false ↦ λ e. let c = off_set seen next.0 e in absurd (omega (arith, c, o))
      ] refl
  round (suc fuel) seen a o goes u leads =
      let next = goes a u in
      elim (is_known seen next.0) as (λ v. is_known seen next.0 ≡ v → Round) [
        | true ↦ λ e. closes seen a next.0 next.1 next.2 e leads
        | false ↦ λ e.
            let c = off_set seen next.0 e in
            round fuel (slice_set seen next.0 true) next.0 (omega (arith, c, o)) goes next.2 (leads_on seen a next.0 next.1 e leads)
      ] refl

  -- where each of them is fed by one of them, one depends on itself
  pub goes_round : ((a : ℕ) → is_known marks a ≡ false → (b : ℕ) × (is_fed_by gates a b ≡ true) × (is_known marks b ≡ false)) → (a : ℕ) → is_known marks a ≡ false → Round
  goes_round goes a u =
      round (off (replicate (length marks) false)) (replicate (length marks) false) a refl goes u (λ s h v.
      let c : is_known (replicate (length marks) false) s ≡ false = none_seen (length marks) s (within marks s v) in absurd (cc))
