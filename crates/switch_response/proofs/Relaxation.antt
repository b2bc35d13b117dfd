-- What one arc, one node and the whole of a spread do.
use Rattle.std.proofs.Common.{◌≡◌, ℕ, zero, suc, ◌+◌, ◌-◌, ◌*◌, ◌<◌, ◌≤◌, ◌⊎◌, inl, inr, IsTrue, List, [], ◌∷◌, ◌++◌, min, length, slice_index, slice_index_or, slice_set, refl, sym, ◌∙◌, ap, subst, arith, length-append}
use Rattle.std.specs.Prelude.{All, Contains, sum_by}
use Rattle.std.proofs.Math.ListN.{length-set, get_or-append}
use Rattle.std.proofs.lemmas.List.{get_or-set_same, get_or_default}
use Rattle.std.proofs.lemmas.List.Sums.{sum_by-set, sum_by-cons}
use Rattle.std.proofs.lemmas.List.Elements.{Contains-append_left, Contains-push, Contains-push_cases, All-append}
use native.Mathlib.Decide.{dec_lt}
use Rattle.switch_response.specs.declared.transistor.Transistor.{Transistor}
use Rattle.switch_response.specs.declared.wiring.Arc.{Arc}
use Rattle.switch_response.specs.Walks.{value_at, Leads}
use Rattle.switch_response.specs.Spread.{Ground, opens, IsSpread, Improves, Steps, still, then, IsWithin, room}
use Rattle.switch_response.specs.Arcs.{IsArcAt, AreArcsAt}
use Rattle.switch_response.specs.Relaxing.{Carries, Stays, IsGrown, IsIdleAlong, IsIdleFrom, AreCovered}
use Rattle.switch_response.proofs.Spreading.{at_node, improve_room, steps_grow, steps_length, spread_of}

-- there is room where a strength can grow
pub room_left : (best : List ℕ) (to v : ℕ) → to < length best → slice_index best to < v → v ≤ 8 → 0 < room best
unfolding room
room_left best to v lt less most =
    let k : sum_by (λ b. 8 - b) (slice_set best to v) + (8 - slice_index best to) ≡ sum_by (λ b. 8 - b) best + (8 - v) = sum_by-set (λ b. 8 - b) best to v 0 lt in
    omega arith

pub room_most : (best : List ℕ) → room best ≤ 8 * length best
unfolding room
room_most [] = omega arith
room_most (x ∷ xs) = let h : sum_by (λ b. 8 - b) xs ≤ 8 * length xs = room_most xs in let e : sum_by (λ b. 8 - b) (x ∷ xs) ≡ (8 - x) + sum_by (λ b. 8 - b) xs = sum_by-cons (λ b. 8 - b) x xs in omega arith

-- nothing has happened yet
pub grown_still : (g : Ground) (best waits : List ℕ) → All (λ b. b ≤ 8) best → All (λ a. a < length best) waits → IsGrown g best best waits waits
grown_still g best waits bounded within = record {
  steps = still;
  bounded = bounded;
  within = within;
  less = omega arith;
  raised = λ a. inl refl;
  kept = λ a h. h;
}

all_set : (best : List ℕ) (to v : ℕ) → v ≤ 8 → All (λ b. b ≤ 8) best → to < length best → All (λ b. b ≤ 8) (slice_set best to v)
all_set best to v most h lt k d inside =
    let long : length (slice_set best to v) ≡ length best = length-set best to v in
    elim (at_node best to v k lt) [
      | inl e ↦
          let is : slice_index_or (slice_set best to v) k d ≡ slice_index (slice_set best to v) k = get_or_default (slice_set best to v) k d 0 inside in
          let at = e.1 in omega arith
      | inr e ↦
          let is : slice_index_or (slice_set best to v) k d ≡ slice_index (slice_set best to v) k = get_or_default (slice_set best to v) k d 0 inside in
          let at = e.1 in
          let old : slice_index best k ≤ 8 = h k 0 (omega arith) in omega arith
    ]

all_one : (P : ℕ → Type 0) (x : ℕ) → P x → All P (x ∷ [])
all_one P x h zero d lt = h
all_one P x h (suc k) d lt = absurd (omega arith)

module _ (g : Ground) (start waited : List ℕ) (node strength : ℕ) where
  improved : (old new : List ℕ) (x : Arc) → IsArcAt g.transistors g.storage node x → IsTrue (opens g.definite x.channel (value_at g.values x.gate)) → x.to < length old → strength ≤ 8 → slice_index old node ≡ strength
      → slice_index g.floor x.to ≤ min strength x.strength → slice_index old x.to < min strength x.strength → new ≡ slice_set old x.to (min strength x.strength) → Improves g old new
  improved old new x arc opened lt most own floor greater is =
      let e : min (slice_index old node) arc.by.strength ≡ min strength x.strength = ap (λ s. min s arc.by.strength) own ∙ ap (min strength) (sym arc.is.strength) in
      record {
        by = arc.by;
        start = node;
        to = x.to;
        crosses = (arc.among, subst (λ c. IsTrue (opens g.definite c (value_at g.values arc.by.gate))) arc.is.channel (subst (λ k. IsTrue (opens g.definite x.channel (value_at g.values k))) arc.is.gate opened), arc.leads, arc.stored);
        within = lt;
        floor = omega arith;
        greater = omega arith;
        fits = omega arith;
        is = is ∙ ap (slice_set old x.to) (sym e);
      }

  -- one arc that may be passed
  pub grown_carry : (old new waits more : List ℕ) (x : Arc) → IsArcAt g.transistors g.storage node x → IsTrue (opens g.definite x.channel (value_at g.values x.gate)) → x.to < length old → strength ≤ 8
      → slice_index old node ≡ strength → IsGrown g start old waited waits
      → Carries g.floor strength x old waits new more ⊎ Stays g.floor strength x old waits new more
      → IsGrown g start new waited more × (slice_index new node ≡ strength) × ((a : ℕ) → slice_index old a ≤ slice_index new a) × IsIdleAlong g new strength x
  grown_carry old new waits more x arc opened lt most own h (inl c) =
      let v : ℕ = min strength x.strength in
      let i : Improves g old new = improved old new x arc opened lt most own c.0 c.1 c.2 in
      let long : length old ≡ length start = steps_length g start old h.steps in
      let less : room new < room old = improve_room g old new i in
      let count : length more ≡ length waits + 1 = ap length c.3 ∙ simp length-append in (
        record {
          steps = then h.steps i;
          bounded = subst (All (λ b. b ≤ 8)) (sym c.2) (all_set old x.to v (omega arith) h.bounded lt);
          within = subst (All (λ a. a < length start)) (sym c.3) (All-append (λ a. a < length start) waits (x.to ∷ []) h.within (all_one (λ a. a < length start) x.to (omega arith)));
          less = omega (arith, h.less);
          raised = λ a. elim (at_node old x.to v a lt) [
            | inl e ↦ inr (subst (λ w. Contains w a) (sym c.3) (subst (Contains (waits ++ x.to ∷ [])) (sym e.0) (Contains-push waits x.to)))
            | inr e ↦ elim (h.raised a) [
              | inl f ↦ inl (ap (λ xs. slice_index xs a) c.2 ∙ e.1 ∙ f)
              | inr f ↦ inr (subst (λ w. Contains w a) (sym c.3) (Contains-append_left waits (x.to ∷ []) a f))
            ]
          ];
          kept = λ a w. subst (λ w. Contains w a) (sym c.3) (Contains-append_left waits (x.to ∷ []) a (h.kept a w));
        },
        elim (at_node old x.to v node lt) [
          | inl e ↦ absurd (let same : slice_index old node ≡ slice_index old x.to = ap (slice_index old) e.0 in let less = c.1 in omega arith)
          | inr e ↦ ap (λ xs. slice_index xs node) c.2 ∙ e.1 ∙ own
        ],
        λ a. steps_grow g old new (then still i) a,
        λ o f. let at : slice_index new x.to ≡ v = ap (λ xs. slice_index xs x.to) c.2 ∙ get_or-set_same old x.to v 0 lt in omega arith,
      )
  grown_carry old new waits more x arc opened lt most own h (inr c) = (
    subst (λ n. IsGrown g start n waited more) (sym c.0) (subst (IsGrown g start old waited) (sym c.1) h),
    ap (λ xs. slice_index xs node) c.0 ∙ own,
    λ a. (let e : slice_index new a ≡ slice_index old a = ap (λ xs. slice_index xs a) c.0 in omega arith),
    λ o f. (let e : slice_index new x.to ≡ slice_index old x.to = ap (λ xs. slice_index xs x.to) c.0 in let k = c.2 f in omega arith),
  )

-- one arc more that improves nothing
pub idle_more : (g : Ground) (strength : ℕ) (old new : List ℕ) (arcs : List Arc) (i : ℕ) (d0 : Arc) → i < length arcs → ((a : ℕ) → slice_index old a ≤ slice_index new a)
    → ((k : ℕ) (d : Arc) → k < i → IsIdleAlong g old strength (slice_index_or arcs k d)) → IsIdleAlong g new strength (slice_index_or arcs i d0)
    → (k : ℕ) (d : Arc) → k < i + 1 → IsIdleAlong g new strength (slice_index_or arcs k d)
idle_more g strength old new arcs i d0 inside grow before here k d lt = elim (dec_lt k i) [
  | yes h ↦ λ o f. let b = before k d h o f in let m = grow (slice_index_or arcs k d).to in omega arith
  | no h ↦
      let e : i ≡ k = omega arith in
      subst (IsIdleAlong g new strength) (get_or_default arcs i d0 d inside ∙ ap (λ j. slice_index_or arcs j d) e) here
]

-- a node all of whose arcs improve nothing
pub idle_from : (g : Ground) (best : List ℕ) (node strength : ℕ) (arcs : List Arc) → AreArcsAt g.transistors g.storage node arcs → slice_index best node ≡ strength
    → ((k : ℕ) (d : Arc) → k < length arcs → IsIdleAlong g best strength (slice_index_or arcs k d)) → IsIdleFrom g best node
idle_from g best node strength arcs are own idle t b crosses floor =
    let h = are.whole t b crosses.0 crosses.2 crosses.3 in
    let x : Arc = h.arc in
    let along : IsIdleAlong g best strength x = subst (IsIdleAlong g best strength) h.among.2 (idle h.among.0 x h.among.1) in
    let e : min strength x.strength ≡ min (slice_index best node) t.strength = ap (λ s. min s x.strength) (sym own) ∙ ap (min (slice_index best node)) h.is.strength in
    let opened : IsTrue (opens g.definite x.channel (value_at g.values x.gate)) =
    subst (λ c. IsTrue (opens g.definite c (value_at g.values x.gate))) (sym h.is.channel) (subst (λ k. IsTrue (opens g.definite t.channel (value_at g.values k))) (sym h.is.gate) crosses.1) in
    let low : slice_index g.floor x.to ≡ slice_index g.floor b = ap (slice_index g.floor) h.is.to in
    let high : slice_index best x.to ≡ slice_index best b = ap (slice_index best) h.is.to in
    let k = along opened (omega arith) in
    omega arith

idle_later : (g : Ground) (old new : List ℕ) (a : ℕ) → ((n : ℕ) → slice_index old n ≤ slice_index new n) → slice_index new a ≡ slice_index old a → IsIdleFrom g old a → IsIdleFrom g new a
idle_later g old new a grow same idle t b crosses floor =
    let e : min (slice_index new a) t.strength ≡ min (slice_index old a) t.strength = ap (λ s. min s t.strength) same in
    let k = idle t b crosses (omega arith) in
    let m = grow b in
    omega arith

-- one node more has been left
pub covered_more : (g : Ground) (old new waited waits : List ℕ) (node : ℕ) → AreCovered g old (waited ++ node ∷ []) → IsGrown g old new waited waits → IsIdleFrom g new node → AreCovered g new waits
covered_more g old new waited waits node covered grown idle a lt = elim (grown.raised a) [
  | inr w ↦ inl w
  | inl same ↦ elim (covered a (let e = steps_length g old new grown.steps in omega arith)) [
    | inl c ↦ elim (Contains-push_cases waited node a c) [
      | inl w ↦ inl (grown.kept a w)
      | inr e ↦ inr (subst (IsIdleFrom g new) e idle)
    ]
    | inr i ↦ inr (idle_later g old new a (steps_grow g old new grown.steps) same i)
  ]
]

leads_within : (nodes : ℕ) (t : Transistor) (a b : ℕ) → IsWithin nodes t → Leads t a b → a < nodes
leads_within nodes t a b w (inl h) = let e = h.0 in let lt = w.1 in omega arith
leads_within nodes t a b w (inr h) = let e = h.0 in let lt = w.2 in omega arith

-- where no node waits, the strengths are those of the strongest walks
pub spread_done : (g : Ground) (seeds best : List ℕ) (nodes : ℕ) → All (IsWithin nodes) g.transistors → length seeds ≡ nodes → Steps g seeds best → AreCovered g best [] → IsSpread g seeds best
spread_done g seeds best nodes within count steps covered = spread_of g seeds best steps (λ t a b crosses floor.
    let w : IsWithin nodes t = subst (IsWithin nodes) crosses.0.2 (within crosses.0.0 t crosses.0.1) in
    let lt : a < nodes = leads_within nodes t a b w crosses.2 in
    elim (covered a (let e = steps_length g seeds best steps in omega arith)) [
      | inl c ↦ absurd (let none = c.1 in omega arith)
      | inr idle ↦ idle t b crosses floor
    ])

pub all_last : {X : Type 0} (P : X → Type 0) (xs ys : List X) (y : X) → xs ≡ ys ++ y ∷ [] → All P xs → P y
all_last P xs ys y e h = let c = Contains-push ys y in subst P c.2 (subst (All P) e h c.0 y c.1)

pub all_front : {X : Type 0} (P : X → Type 0) (xs ys : List X) (y : X) → xs ≡ ys ++ y ∷ [] → All P xs → All P ys
all_front P xs ys y e h k d lt = subst P (get_or-append ys (y ∷ []) d k lt) (subst (All P) e h k d (simp length-append (omega arith)))
