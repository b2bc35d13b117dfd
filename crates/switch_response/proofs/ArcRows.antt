-- The arcs of nodes, transistor by transistor.
use Rattle.std.proofs.Common.{◌≡◌, ℕ, zero, suc, ◌<◌, ◌≤◌, ◌≢◌, ◌⊎◌, inl, inr, List, [], ◌∷◌, ◌++◌, length, slice_index_or, slice_set, refl, sym, ◌∙◌, ap, subst, arith}
use Rattle.std.specs.Prelude.{All, Contains}
use Rattle.std.proofs.lemmas.List.{get_or-set_same, get_or-set_other}
use Rattle.std.proofs.lemmas.List.Elements.{Contains-append_left, Contains-push, Contains-push_cases, All-append}
use native.Mathlib.Decide.{dec_lt}
use Rattle.switch_response.specs.declared.transistor.Transistor.{Transistor}
use Rattle.switch_response.specs.declared.wiring.Arc.{Arc}
use Rattle.switch_response.specs.Walks.{Leads}
use Rattle.switch_response.specs.Spread.{IsWithin}
use Rattle.switch_response.specs.Arcs.{IsArcAt, HasArc, AreArcsAt, AddsArc, IsArcWithin, arc_of}

abbrev row : List (List Arc) → ℕ → List Arc
row rows n = slice_index_or rows n []

-- at each node but one a row stays as it is
row_at : (rows : List (List Arc)) (i : ℕ) (v : List Arc) (n : ℕ) → i < length rows → ((n ≡ i) × (row (slice_set rows i v) n ≡ v)) ⊎ ((n ≢ i) × (row (slice_set rows i v) n ≡ row rows n))
row_at rows i v n lt = elim (dec_lt n i) [
  | yes h ↦ let ne : n ≢ i = omega arith in inr (ne, get_or-set_other rows i n v [] ne)
  | no h ↦ elim (dec_lt i n) [
    | yes k ↦ let ne : n ≢ i = omega arith in inr (ne, get_or-set_other rows i n v [] ne)
    | no k ↦ let e : n ≡ i = omega arith in inl (e, subst (λ n. row (slice_set rows i v) n ≡ v) (sym e) (get_or-set_same rows i v [] lt))
  ]
]

-- a row keeps its arcs and may get one
RowGrows : List Arc → List Arc → Transistor → ℕ → Type 0
RowGrows old new t to = (new ≡ old) ⊎ (new ≡ old ++ arc_of t to ∷ [])

row_grows : (old new : List (List Arc)) (t : Transistor) (a b storage : ℕ) → a < length old → AddsArc old new t a b storage → (n : ℕ) → RowGrows (row old n) (row new n) t b
unfolding RowGrows
row_grows old new t a b storage lt adds n = elim (dec_lt b storage) [
  | yes h ↦ elim (row_at old a (row old a ++ arc_of t b ∷ []) n lt) [
    | inl e ↦ inr (ap (λ rows. row rows n) (adds.inside h) ∙ e.1 ∙ ap (λ k. row old k ++ arc_of t b ∷ []) (sym e.0))
    | inr e ↦ inl (ap (λ rows. row rows n) (adds.inside h) ∙ e.1)
  ]
  | no h ↦ inl (ap (λ rows. row rows n) (adds.outside (omega arith)))
]

has_kept : (old new : List Arc) (t : Transistor) (to : ℕ) → RowGrows old new t to → (u : Transistor) (end : ℕ) → HasArc old u end → HasArc new u end
unfolding RowGrows
has_kept old new t to (inl e) u end h = subst (λ r. HasArc r u end) (sym e) h
has_kept old new t to (inr e) u end h = subst (λ r. HasArc r u end) (sym e) (record { arc = h.arc; among = Contains-append_left old (arc_of t to ∷ []) h.arc h.among; is = h.is })

has_new : (old new : List (List Arc)) (t : Transistor) (a b storage : ℕ) → a < length old → b < storage → AddsArc old new t a b storage → HasArc (row new a) t b
has_new old new t a b storage lt inside adds =
    let e : row new a ≡ row old a ++ arc_of t b ∷ [] = ap (λ rows. row rows a) (adds.inside inside) ∙ get_or-set_same old a (row old a ++ arc_of t b ∷ []) [] lt in
    subst (λ r. HasArc r t b) (sym e) (record { arc = arc_of t b; among = Contains-push (row old a) (arc_of t b); is = record { channel = refl; gate = refl; to = refl; strength = refl } })

all_one : (P : Arc → Type 0) (x : Arc) → P x → All P (x ∷ [])
all_one P x h zero d lt = h
all_one P x h (suc k) d lt = absurd (omega arith)

-- each arc stands for a transistor, also the new one
each_kept : (ts : List Transistor) (old new : List (List Arc)) (t : Transistor) (a b storage : ℕ) → a < length old → Contains ts t → Leads t a b → AddsArc old new t a b storage
    → (n : ℕ) → All (IsArcAt ts storage n) (row old n) → All (IsArcAt ts storage n) (row new n)
each_kept ts old new t a b storage lt among leads adds n h = elim (dec_lt b storage) [
  | yes inside ↦ elim (row_at old a (row old a ++ arc_of t b ∷ []) n lt) [
    | inl e ↦
        let is : row new n ≡ row old a ++ arc_of t b ∷ [] = ap (λ rows. row rows n) (adds.inside inside) ∙ e.1 in
        let arc : IsArcAt ts storage n (arc_of t b) = record { by = t; among = among; leads = subst (λ k. Leads t k b) (sym e.0) leads; stored = inside; is = record { channel = refl; gate = refl; to = refl; strength = refl } } in
        subst (All (IsArcAt ts storage n)) (sym is)
        (All-append (IsArcAt ts storage n) (row old a) (arc_of t b ∷ []) (subst (λ k. All (IsArcAt ts storage n) (row old k)) e.0 h) (all_one (IsArcAt ts storage n) (arc_of t b) arc))
    | inr e ↦ subst (All (IsArcAt ts storage n)) (sym (ap (λ rows. row rows n) (adds.inside inside) ∙ e.1)) h
  ]
  | no outside ↦ subst (All (IsArcAt ts storage n)) (sym (ap (λ rows. row rows n) (adds.outside (omega arith)))) h
]

each_more : (ts : List Transistor) (t : Transistor) (storage n : ℕ) (arcs : List Arc) → All (IsArcAt ts storage n) arcs → All (IsArcAt (ts ++ t ∷ []) storage n) arcs
each_more ts t storage n arcs h k d lt =
    let x = h k d lt in
    record { by = x.by; among = Contains-append_left ts (t ∷ []) x.by x.among; leads = x.leads; stored = x.stored; is = x.is }

-- one transistor more
pub arcs_more : (ts : List Transistor) (t : Transistor) (storage : ℕ) (old mid new : List (List Arc)) → t.drain < length old → t.source < length mid
    → AddsArc old mid t t.drain t.source storage → AddsArc mid new t t.source t.drain storage
    → (n : ℕ) → AreArcsAt ts storage n (row old n) → AreArcsAt (ts ++ t ∷ []) storage n (row new n)
arcs_more ts t storage old mid new drain source there back n h =
    let kept = λ (u : Transistor) (end : ℕ) (g : HasArc (row mid n) u end). has_kept (row mid n) (row new n) t t.drain (row_grows mid new t t.source t.drain storage source back n) u end g in
    record {
      each = each_kept (ts ++ t ∷ []) mid new t t.source t.drain storage source (Contains-push ts t) (inr (refl, refl)) back n
          (each_kept (ts ++ t ∷ []) old mid t t.drain t.source storage drain (Contains-push ts t) (inl (refl, refl)) there n (each_more ts t storage n (row old n) h.each));
      whole = λ u to among leads stored. elim (Contains-push_cases ts t u among) [
        | inl g ↦ kept u to (has_kept (row old n) (row mid n) t t.source (row_grows old mid t t.drain t.source storage drain there n) u to (h.whole u to g leads stored))
        | inr e ↦ subst (λ u. HasArc (row new n) u to) e (elim (subst (λ u. Leads u n to) (sym e) leads) [
          | inl g ↦ kept t to (subst (λ k. HasArc (row mid k) t to) g.0 (subst (HasArc (row mid t.drain) t) g.1 (has_new old mid t t.drain t.source storage drain (let s = g.1 in omega arith) there)))
          | inr g ↦ subst (λ k. HasArc (row new k) t to) g.0 (subst (HasArc (row new t.source) t) g.1 (has_new mid new t t.source t.drain storage source (let s = g.1 in omega arith) back))
        ])
      ];
    }

-- no transistor
pub arcs_none : (storage n : ℕ) (arcs : List Arc) → arcs ≡ [] → AreArcsAt [] storage n arcs
arcs_none storage n arcs e = subst (AreArcsAt [] storage n) (sym e) (record { each = λ k d lt. absurd (omega arith); whole = λ t to among leads stored. absurd (let lt = among.1 in omega arith) })

-- an arc's gate and end are among the nodes
pub arc_within : (nodes storage node : ℕ) (ts : List Transistor) (x : Arc) → All (IsWithin nodes) ts → storage ≤ nodes → IsArcAt ts storage node x → IsArcWithin nodes x
arc_within nodes storage node ts x within le arc =
    let w : IsWithin nodes arc.by = subst (IsWithin nodes) arc.among.2 (within arc.among.0 arc.by arc.among.1) in
    let gate = w.0 in
    (omega (arith, arc.is.gate), omega (arith, arc.stored))
