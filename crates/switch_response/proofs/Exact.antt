-- The spreads of a response are its walks.
use Rattle.std.proofs.Common.{◌≡◌, ◌≢◌, ℕ, ◌+◌, ◌<◌, ◌≤◌, inl, inr, true, false, List, [], ◌∷◌, min, length, slice_index, slice_set, below_more, refl, sym, ◌∙◌, ap, subst, arith}
use Rattle.std.proofs.lemmas.List.{get_or-set_same, get_or-set_other}
use Rattle.std.proofs.Math.ListN.{get_or-eq_default}
use Rattle.tern_core.specs.declared.tern.Tern.{Tern}
use Rattle.tern_core.specs.declared.tern.Tern.TheVariants.{Zero, One, Unknown}
use Rattle.switch_response.specs.declared.transistor.Transistor.{Transistor}
use Rattle.switch_response.specs.Walks.{Net, IsNet, Step, value_at, end_of, strength, IsWalk, IsDefinite, IsReachedAbove, IsBlocked, Arrives, Becomes, HasArrival}
use Rattle.switch_response.specs.Spread.{Ground, ground, Crosses, carried, IsAdmitted, IsSpread}
use Rattle.switch_response.specs.Seeds.{AreSeeds}
use Rattle.switch_response.proofs.Order.{on_passing, has_unblocked}
use native.Mathlib.Decide.{dec_lt}

in_list : (xs : List ℕ) (i : ℕ) → 0 < slice_index xs i → i < length xs
in_list xs i h = elim (dec_lt i (length xs)) [
  | yes lt ↦ lt
  | no ge ↦ let e : slice_index xs i ≡ 0 = get_or-eq_default xs 0 (omega arith) in absurd (omega arith)
]

-- a spread can't be made stronger along a transistor
spread_step : (g : Ground) (seeds best : List ℕ) → IsSpread g seeds best → (t : Transistor) (a b : ℕ) → Crosses g t a b → slice_index g.floor b ≤ min (slice_index best a) t.strength → min (slice_index best a) t.strength ≤ slice_index best b
spread_step g seeds best s t a b crosses floor = elim (dec_lt 0 (slice_index best a)) [
  | yes h ↦
      let r = s.sound a h in
      let c : min (carried seeds r.root r.steps) t.strength ≡ min (slice_index best a) t.strength = ap (λ n. min n t.strength) r.carries in
      let f : slice_index g.floor b ≤ min (carried seeds r.root r.steps) t.strength = omega arith in
      let m : min (carried seeds r.root r.steps) t.strength ≤ slice_index best b =
      s.most r.root (record { by = t; to = b } ∷ r.steps) (r.admitted, subst (λ n. Crosses g t n b) (sym r.reaches) crosses, f) in
      omega arith
  | no h ↦ omega arith
]

module _ (n : Net) (ok : IsNet n) (values : List Tern) (best : List ℕ) (spread : IsSpread (ground n.transistors n.storage values true n.strengths) n.strengths best) where
  carried_strength : (root : ℕ) (steps : List Step) → carried n.strengths root steps ≡ strength n root steps
  carried_strength root [] = refl
  carried_strength root (s ∷ steps) = ap (λ k. min k s.by.strength) (carried_strength root steps)

  admitted_definite : (root : ℕ) (steps : List Step) → IsAdmitted (ground n.transistors n.storage values true n.strengths) n.strengths root steps → IsWalk n values root steps × IsDefinite values steps
  admitted_definite root [] h = (in_list n.strengths root h, tt)
  admitted_definite root (s ∷ steps) h =
      let k = admitted_definite root steps h.0 in
      ((k.0, h.1.0, on_passing s.by.channel _ h.1.1, h.1.2, h.1.3), (k.1, h.1.1))

  -- each strength is that of a definite walk
  pub reached_above : (node least : ℕ) → least < slice_index best node → IsReachedAbove n values node least
  reached_above node least h =
      let r = spread.sound node (omega arith) in
      let k = admitted_definite r.root r.steps r.admitted in
      record {
        root = r.root;
        steps = r.steps;
        walk = k.0;
        definite = k.1;
        reaches = r.reaches;
        stronger = let e : strength n r.root r.steps ≡ slice_index best node = sym (carried_strength r.root r.steps) ∙ r.carries in omega arith;
      }

  own_strength : (node : ℕ) → slice_index n.strengths node ≤ slice_index best node
  own_strength node = elim (dec_lt 0 (slice_index n.strengths node)) [
    | yes h ↦ spread.most node [] h
    | no h ↦ omega arith
  ]

  definite_most : (root : ℕ) (steps : List Step) → IsWalk n values root steps → IsDefinite values steps → strength n root steps ≤ slice_index best (end_of root steps)
  definite_most root [] w d = own_strength root
  definite_most root (s ∷ steps) w d =
      let h : strength n root steps ≤ slice_index best (end_of root steps) = definite_most root steps w.0 d.0 in
      let own : slice_index n.strengths s.to ≤ slice_index best s.to = own_strength s.to in
      let step : slice_index n.strengths s.to ≤ min (slice_index best (end_of root steps)) s.by.strength → min (slice_index best (end_of root steps)) s.by.strength ≤ slice_index best s.to
      = spread_step (ground n.transistors n.storage values true n.strengths) n.strengths best spread s.by (end_of root steps) s.to (w.1, d.1, w.3, w.4) in
      elim (dec_lt (min (slice_index best (end_of root steps)) s.by.strength) (slice_index n.strengths s.to)) [
        | yes lt ↦ omega arith
        | no ge ↦ let k = step (omega arith) in omega (arith, k)
      ]

  -- and none is stronger
  pub not_above : (node least : ℕ) → slice_index best node ≤ least → IsReachedAbove n values node least → ⊥
  not_above node least h r =
      let k : strength n r.root r.steps ≤ slice_index best (end_of r.root r.steps) = definite_most r.root r.steps r.walk r.definite in
      let e : slice_index best (end_of r.root r.steps) ≡ slice_index best node = ap (slice_index best) r.reaches in
      omega (arith, r.stronger)

  pub at_least : (node least : ℕ) → (IsReachedAbove n values node least → ⊥) → slice_index best node ≤ least
  at_least node least h = elim (dec_lt least (slice_index best node)) [
    | yes lt ↦ absurd (h (reached_above node least lt))
    | no ge ↦ omega arith
  ]

  pub has_arrival : (top : ℕ) → ((k : ℕ) → slice_index n.strengths k ≤ top) → (node : ℕ) → node < n.storage → HasArrival n values node
  has_arrival top bound node lt =
      has_unblocked n values (HasArrival n values node)
      (λ k least above not. elim (dec_lt least (slice_index best k)) [ yes h ↦ above (reached_above k least h) | no h ↦ not (not_above k least (omega arith)) ])
      top bound node [] (omega (arith, ok.storage)) tt (λ from walk arrives g. record { root = from; steps = walk; arrives = arrives })

  at_end : (root : ℕ) (steps : List Step) → IsReachedAbove n values (end_of root steps) (strength n root steps) → IsBlocked n values root steps
  at_end root [] r = r
  at_end root (s ∷ steps) r = inr r

  -- Unblocked walks whose root isn't at a value.
  module _ (avoid : Tern) (seeds reach : List ℕ) (count : length seeds ≡ length n.strengths) (are : AreSeeds values avoid n.strengths best seeds)
      (wide : IsSpread (ground n.transistors n.storage values false best) seeds reach) where
    arrives_admitted : (root : ℕ) (steps : List Step) → IsWalk n values root steps → (IsBlocked n values root steps → ⊥) → value_at values root ≢ avoid
        → IsAdmitted (ground n.transistors n.storage values false best) seeds root steps × (carried seeds root steps ≡ strength n root steps)
    arrives_admitted root [] w free other =
        let e : slice_index seeds root ≡ slice_index n.strengths root = (are root (omega arith)).kept other (at_least root _ free) in
        let p : 0 < slice_index n.strengths root = ok.positive root w in
        (omega arith, e)
    arrives_admitted root (s ∷ steps) w free other =
        let k = arrives_admitted root steps w.0 (λ b. free (inl b)) other in
        let e : min (carried seeds root steps) s.by.strength ≡ min (strength n root steps) s.by.strength = ap (λ m. min m s.by.strength) k.1 in
        let f : slice_index best s.to ≤ min (strength n root steps) s.by.strength = at_least s.to _ (λ r. free (inr r)) in
        ((k.0, (w.1, w.2, w.3, w.4), omega arith), e)

    admitted_arrives : (root : ℕ) (steps : List Step) → IsAdmitted (ground n.transistors n.storage values false best) seeds root steps
        → IsWalk n values root steps × (IsBlocked n values root steps → ⊥) × (value_at values root ≢ avoid) × (carried seeds root steps ≡ strength n root steps)
    admitted_arrives root [] h =
        let lt : root < length seeds = in_list seeds root h in
        let k = are root lt in
        let other : value_at values root ≢ avoid = λ e. let z : slice_index seeds root ≡ 0 = k.avoided e in omega arith in
        elim (dec_lt (slice_index n.strengths root) (slice_index best root)) [
          | yes less ↦ let z : slice_index seeds root ≡ 0 = k.blocked less in absurd (omega arith)
          | no ge ↦ (omega arith, not_above root _ (omega arith), other, k.kept other (omega arith))
        ]
    admitted_arrives root (s ∷ steps) h =
        let k = admitted_arrives root steps h.0 in
        let e : min (carried seeds root steps) s.by.strength ≡ min (strength n root steps) s.by.strength = ap (λ m. min m s.by.strength) k.3 in
        let f : slice_index best s.to ≤ min (strength n root steps) s.by.strength = omega (arith, h.2) in
        ((k.0, h.1.0, h.1.1, h.1.2, h.1.3), elim [ inl b ↦ k.1 b | inr r ↦ not_above s.to _ f r ], k.2, e)

    -- no walk: all roots are at the value
    pub none_reach : (node : ℕ) → node < n.storage → slice_index reach node ≡ 0 → (root : ℕ) (steps : List Step) → Arrives n values node root steps → value_at values root ≢ avoid → ⊥
    none_reach node lt z root steps r other =
        let k = arrives_admitted root steps r.walk r.unblocked other in
        let m : carried seeds root steps ≤ slice_index reach (end_of root steps) = wide.most root steps k.0 in
        let e : slice_index reach (end_of root steps) ≡ slice_index reach node = ap (slice_index reach) r.reaches in
        let own : slice_index n.strengths node ≤ slice_index best node = own_strength node in
        let p : 0 < slice_index n.strengths node = ok.positive node (omega (arith, ok.storage)) in
        let f : slice_index best node ≤ strength n root steps = at_least node _ (λ q. r.unblocked (at_end root steps (subst (λ m. IsReachedAbove n values m (strength n root steps)) (sym r.reaches) q))) in
        omega (arith, k.1)

    -- a walk: not all roots are
    pub some_reach : (node : ℕ) → 0 < slice_index reach node → (root : ℕ) × (steps : List Step) × Arrives n values node root steps × (value_at values root ≢ avoid)
    some_reach node h =
        let r = wide.sound node h in
        let k = admitted_arrives r.root r.steps r.admitted in
        (r.root, r.steps, record { walk = k.0; reaches = r.reaches; unblocked = k.1 }, k.2)

-- the value that is left, where the node isn't reached from others
value_cases : (v : Tern) → ((v ≢ One) → ⊥) → v ≡ One
value_cases One h = refl
value_cases Zero h = absurd (h (λ e. cc))
value_cases Unknown h = absurd (h (λ e. cc))

value_cases_zero : (v : Tern) → ((v ≢ Zero) → ⊥) → v ≡ Zero
value_cases_zero Zero h = refl
value_cases_zero One h = absurd (h (λ e. cc))
value_cases_zero Unknown h = absurd (h (λ e. cc))

module _ (n : Net) (ok : IsNet n) (values : List Tern) (best : List ℕ) (spread : IsSpread (ground n.transistors n.storage values true n.strengths) n.strengths best)
    (ones zeros to_ones to_zeros : List ℕ)
    (count : length ones ≡ length n.strengths) (count2 : length zeros ≡ length n.strengths)
    (are : AreSeeds values One n.strengths best ones) (are2 : AreSeeds values Zero n.strengths best zeros)
    (wide : IsSpread (ground n.transistors n.storage values false best) ones to_ones)
    (wide2 : IsSpread (ground n.transistors n.storage values false best) zeros to_zeros) where
  pub becomes_one : (node : ℕ) → node < n.storage → slice_index to_ones node ≡ 0 → Becomes n values node One
  becomes_one node lt z root steps r = value_cases _ (none_reach n ok values best spread One ones to_ones count are wide node lt z root steps r)

  pub becomes_zero : (node : ℕ) → node < n.storage → slice_index to_zeros node ≡ 0 → Becomes n values node Zero
  becomes_zero node lt z root steps r = value_cases_zero _ (none_reach n ok values best spread Zero zeros to_zeros count2 are2 wide2 node lt z root steps r)

  pub becomes_unknown : (node : ℕ) → 0 < slice_index to_ones node → 0 < slice_index to_zeros node → Becomes n values node Unknown
  becomes_unknown node p q =
      let r = some_reach n ok values best spread One ones to_ones count are wide node p in
      let t = some_reach n ok values best spread Zero zeros to_zeros count2 are2 wide2 node q in
      (λ all. r.3 (all r.0 r.1 r.2), λ all. t.3 (all t.0 t.1 t.2))

  pub becomes_value : (node : ℕ) → node < n.storage → (v : Tern) → (v ≡ One → slice_index to_ones node ≡ 0) → (v ≡ Zero → slice_index to_zeros node ≡ 0) → (v ≡ Unknown → (0 < slice_index to_ones node) × (0 < slice_index to_zeros node)) → Becomes n values node v
  becomes_value node lt One p q r = becomes_one node lt (p refl)
  becomes_value node lt Zero p q r = becomes_zero node lt (q refl)
  becomes_value node lt Unknown p q r = becomes_unknown node (r refl).0 (r refl).1

-- one more node of the next state
pub next_more : (n : Net) (values next : List Tern) (i : ℕ) (v : Tern) → i < length next → ((k : ℕ) → k < i → Becomes n values k (value_at next k)) → Becomes n values i v
    → (k : ℕ) → k < i + 1 → Becomes n values k (value_at (slice_set next i v) k)
next_more n values next i v lt before here = below_more (λ k. Becomes n values k (value_at (slice_set next i v) k)) i
    (λ k h. let ne : k ≢ i = omega arith in subst (Becomes n values k) (sym (get_or-set_other next i k v Unknown ne)) (before k h))
    (subst (Becomes n values i) (sym (get_or-set_same next i v Unknown lt)) here)
