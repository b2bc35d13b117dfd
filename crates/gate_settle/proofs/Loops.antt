-- Where no gate is ready, some net depends on itself; in an order of dependence none does.
use Rattle.std.proofs.Common.{◌≡◌, ℕ, suc, zero, ◌+◌, ◌<◌, ◌≤◌, ◌⊎◌, inl, inr, Bool, true, false, List, [], ◌∷◌, length, refl, sym, ◌∙◌, ap, subst, arith}
use Rattle.std.specs.Prelude.{◌==◌, ◌&&◌, ◌||◌, not, slice_set, sum_by, replicate, if◌then◌else◌}
use Rattle.std.proofs.lemmas.List.{get_or-set_same, get_or-set_other, ext_get_or}
use Rattle.std.proofs.lemmas.List.Sums.{sum_by-cons}
use Rattle.std.proofs.Math.ListN.{length-set}
use Rattle.gate_settle.specs.declared.gate.Operand.{Operand}
use Rattle.gate_settle.specs.declared.gate.Operand.TheVariants.{Net, Constant}
use Rattle.gate_settle.specs.declared.gate.Gate.{Gate}
use Rattle.gate_settle.specs.Gates.{is_among, is_driven}
use Rattle.gate_settle.specs.Order.{is_known, marked, all_known, all_unknown, is_ready, none_ready, is_ordered, known_after, known_at_first, is_input, is_fed_by, DependsOn, directly, through, times, drivers}
use Rattle.gate_settle.proofs.Settling.{both, neither, not_known, eq_self, same_of, apart_of, known_apart, marked_keeps, among_known, marked_long}

pub first_true : (a b : Bool) → a ≡ true → (a || b) ≡ true
first_true true b h = refl
first_true false b h = absurd (cc)

pub second_true : (a b : Bool) → b ≡ true → (a || b) ≡ true
second_true true b h = refl
second_true false b h = h

pub either : (a b : Bool) → (a || b) ≡ true → (a ≡ true) ⊎ (b ≡ true)
either true b h = inl refl
either false b h = inr h

one_false : (a b : Bool) → (a && b) ≡ false → (a ≡ false) ⊎ (b ≡ false)
one_false true b h = inr h
one_false false b h = inl refl

each_true : (a b : Bool) → a ≡ true → b ≡ true → (a && b) ≡ true
each_true true b h k = k
each_true false b h k = absurd (cc)

-- ---- going on along a relation over finitely many numbers leads round

module _ (gates : List Gate) where
  pub depends_trans : {a b c : ℕ} → DependsOn gates a b → DependsOn gates b c → DependsOn gates a c
  depends_trans (directly f) k = through f k
  depends_trans (through f h) k = through f (depends_trans h k)

abbrev pub one_if : Bool → ℕ
one_if true = 1
one_if false = 0

-- how many marks are off
off : List Bool → ℕ
off marks = sum_by (λ b. one_if (not b)) marks

off_set : (marks : List Bool) (k : ℕ) → is_known marks k ≡ false → off (slice_set marks k true) + 1 ≡ off marks
unfolding off
off_set [] k h = absurd (cc)
off_set (b ∷ marks) zero h =
    let x = sum_by-cons (λ b. one_if (not b)) b marks in
    let y = sum_by-cons (λ b. one_if (not b)) true marks in
    let e : one_if (not b) ≡ 1 = ap (λ v. one_if (not v)) h in
    omega (arith, x, y, e)
off_set (b ∷ marks) (suc k) h =
    let x = sum_by-cons (λ b. one_if (not b)) b marks in
    let y = sum_by-cons (λ b. one_if (not b)) b (slice_set marks k true) in
    let i = off_set marks k h in
    omega (arith, x, y, i)

set_same : (marks : List Bool) (k : ℕ) → is_known (slice_set marks k true) k ≡ true
set_same [] k = refl
set_same (b ∷ marks) zero = refl
set_same (b ∷ marks) (suc k) = set_same marks k

module _ (gates : List Gate) (bad : List Bool) where
  -- each net that is unknown is fed by another one
  Goes : Type 0
  Goes = (a : ℕ) → is_known bad a ≡ false → (b : ℕ) × (is_fed_by gates a b ≡ true) × (is_known bad b ≡ false)

  -- what has been seen leads to a
  Leads : List Bool → ℕ → Type 0
  Leads seen a = (s : ℕ) → is_known seen s ≡ true → is_known bad s ≡ false → (s ≡ a) ⊎ DependsOn gates s a

  set_seen : (seen : List Bool) (b s : ℕ) → is_known seen b ≡ false → is_known (slice_set seen b true) s ≡ true → (s ≡ b) ⊎ (is_known seen s ≡ true)
  set_seen [] b s u h = inr refl
  set_seen (x ∷ seen) zero zero u h = inl refl
  set_seen (x ∷ seen) zero (suc s) u h = inr h
  set_seen (x ∷ seen) (suc b) zero u h = inr h
  set_seen (x ∷ seen) (suc b) (suc s) u h = elim (set_seen seen b s u h) [ inl e ↦ inl (ap suc e) | inr k ↦ inr k ]

  leads_on : (seen : List Bool) (a b : ℕ) → is_fed_by gates a b ≡ true → is_known seen b ≡ false → Leads seen a → Leads (slice_set seen b true) b
  unfolding Leads
  leads_on seen a b f u leads s h v =
      elim (set_seen seen b s u h) [
        | inl e ↦ inl e
        | inr k ↦ inr (elim (leads s k v) [
          | inl same ↦ directly (subst (λ n. is_fed_by gates n b ≡ true) (sym same) f)
          | inr far ↦ depends_trans gates far (directly f)
        ])
      ]

  Round : Type 0
  Round = (k : ℕ) × (is_known bad k ≡ false) × DependsOn gates k k

  closes : (seen : List Bool) (a b : ℕ) → is_fed_by gates a b ≡ true → is_known bad b ≡ false → is_known seen b ≡ true → Leads seen a → Round
  unfolding Leads Round
  closes seen a b f u e leads = (
    b,
    u,
    elim (leads b e u) [
      | inl same ↦ directly (subst (λ n. is_fed_by gates n b ≡ true) (sym same) f)
      | inr far ↦ depends_trans gates far (directly f)
    ],
  )

  round : (fuel : ℕ) (seen : List Bool) (a : ℕ) → off seen ≡ fuel → Goes → is_known bad a ≡ false → Leads seen a → Round
  unfolding Goes
  round zero seen a o goes u leads =
      let next = goes a u in
      elim (is_known seen next.0) as (λ v. is_known seen next.0 ≡ v → Round) [
        | true ↦ λ e. closes seen a next.0 next.1 next.2 e leads
        | false ↦ λ e. let c = off_set seen next.0 e in absurd (omega (arith, c, o))
      ] refl
  round (suc fuel) seen a o goes u leads =
      let next = goes a u in
      elim (is_known seen next.0) as (λ v. is_known seen next.0 ≡ v → Round) [
        | true ↦ λ e. closes seen a next.0 next.1 next.2 e leads
        | false ↦ λ e.
            let c = off_set seen next.0 e in
            round fuel (slice_set seen next.0 true) next.0 (omega (arith, c, o)) goes next.2 (leads_on seen a next.0 next.1 e leads)
      ] refl

  -- no mark is on within the list
  all_off : (n s : ℕ) → s < n → is_known (replicate n false) s ≡ false
  all_off zero s lt = absurd (omega arith)
  all_off (suc n) zero lt = refl
  all_off (suc n) (suc s) lt = all_off n s (omega arith)

  within : (marks : List Bool) (s : ℕ) → is_known marks s ≡ false → s < length marks
  within [] s h = absurd (cc)
  within (b ∷ marks) zero h = omega arith
  within (b ∷ marks) (suc s) h = let i : s < length marks = within marks s h in omega arith

  pub goes_round : ((a : ℕ) → is_known bad a ≡ false → (b : ℕ) × (is_fed_by gates a b ≡ true) × (is_known bad b ≡ false)) → (a : ℕ) → is_known bad a ≡ false → (k : ℕ) × (is_known bad k ≡ false) × DependsOn gates k k
  unfolding Goes Leads Round
  goes_round goes a u =
      round (off (replicate (length bad) false)) (replicate (length bad) false) a refl goes u (λ s h v.
      let c : is_known (replicate (length bad) false) s ≡ false = all_off (length bad) s (within bad s v) in absurd (cc))

-- ---- an order of dependence has no loop

pub fed_driven : (gates : List Gate) (a b : ℕ) → is_fed_by gates a b ≡ true → is_driven gates a ≡ true
fed_driven [] a b h = absurd (cc)
fed_driven (g ∷ gates) a b h = elim (either (is_among g.outputs a && is_input g.inputs b) (is_fed_by gates a b) h) [
  | inl x ↦ first_true (is_among g.outputs a) (is_driven gates a) (both (is_among g.outputs a) (is_input g.inputs b) x).0
  | inr y ↦ second_true (is_among g.outputs a) (is_driven gates a) (fed_driven gates a b y)
]

pub depends_driven : (gates : List Gate) (a b : ℕ) → DependsOn gates a b → is_driven gates a ≡ true
depends_driven gates a b (directly f) = fed_driven gates a b f
depends_driven gates a c (through {b = b} f h) = fed_driven gates a b f

pub input_known : (known : List Bool) (inputs : List Operand) (k : ℕ) → all_known known inputs ≡ true → is_input inputs k ≡ true → is_known known k ≡ true
input_known known [] k a i = absurd (cc)
input_known known (Net n ∷ inputs) k a i =
    let p = both (is_known known n) (all_known known inputs) a in
    elim (either (n == k) (is_input inputs k) i) [
      | inl e ↦ let s : n ≡ k = same_of n k e in subst (λ m. is_known known m ≡ true) s p.0
      | inr j ↦ input_known known inputs k p.1 j
    ]
input_known known (Constant v ∷ inputs) k a i = input_known known inputs k a i

-- in front of the others the gate feeds nothing that is driven
down : (known : List Bool) (g : Gate) (gates : List Gate) → is_ordered known (g ∷ gates) ≡ true → (a c : ℕ) → is_driven (g ∷ gates) c ≡ true → DependsOn (g ∷ gates) a c → DependsOn gates a c
down known g gates o a c d (directly f) = elim (either (is_among g.outputs a && is_input g.inputs c) (is_fed_by gates a c) f) [
  | inl x ↦
      let i : all_known known g.inputs ≡ true = (both (all_known known g.inputs) (all_unknown known g.outputs && is_ordered (marked g.outputs true known) gates) o).0 in
      let n : is_driven (g ∷ gates) c ≡ false = known_apart known (g ∷ gates) c o (input_known known g.inputs c i (both (is_among g.outputs a) (is_input g.inputs c) x).1) in
      absurd (cc)
  | inr y ↦ directly y
]
down known g gates o a c d (through {b = b} f h) = elim (either (is_among g.outputs a && is_input g.inputs b) (is_fed_by gates a b) f) [
  | inl x ↦
      let i : all_known known g.inputs ≡ true = (both (all_known known g.inputs) (all_unknown known g.outputs && is_ordered (marked g.outputs true known) gates) o).0 in
      let n : is_driven (g ∷ gates) b ≡ false = known_apart known (g ∷ gates) b o (input_known known g.inputs b i (both (is_among g.outputs a) (is_input g.inputs b) x).1) in
      let m : is_driven (g ∷ gates) b ≡ true = depends_driven (g ∷ gates) b c h in
      absurd (cc)
  | inr y ↦ through y (down known g gates o b c d h)
]

pub ordered_no_loop : (known : List Bool) (gates : List Gate) → is_ordered known gates ≡ true → (k : ℕ) → DependsOn gates k k → ⊥
ordered_no_loop known [] o k h = let d : false ≡ true = depends_driven [] k k h in absurd (cc)
ordered_no_loop known (g ∷ gates) o k h =
    let i = both (all_known known g.inputs) (all_unknown known g.outputs && is_ordered (marked g.outputs true known) gates) o in
    let j = both (all_unknown known g.outputs) (is_ordered (marked g.outputs true known) gates) i.1 in
    ordered_no_loop (marked g.outputs true known) gates j.1 k (down known g gates o k k (depends_driven (g ∷ gates) k k h) h)

-- ---- sums over gates

-- the test of some gate
unfoldable pub some_gate : (Gate → Bool) → List Gate → Bool
some_gate p [] = false
some_gate p (g ∷ gates) = p g || some_gate p gates

pub some_sum : (p : Gate → Bool) (gates : List Gate) → some_gate p gates ≡ true → 0 < sum_by (λ g. one_if (p g)) gates
unfolding some_gate
some_sum p [] h = absurd (cc)
some_sum p (g ∷ gates) h =
    let c = sum_by-cons (λ x. one_if (p x)) g gates in
    elim (either (p g) (some_gate p gates) h) [
      | inl x ↦ let e : one_if (p g) ≡ 1 = ap one_if x in omega (arith, c, e)
      | inr y ↦ let i = some_sum p gates y in omega (arith, c, i)
    ]

pub sum_some : (p : Gate → Bool) (gates : List Gate) → 0 < sum_by (λ g. one_if (p g)) gates → some_gate p gates ≡ true
unfolding some_gate
sum_some p [] h = absurd (omega arith)
sum_some p (g ∷ gates) h =
    let c = sum_by-cons (λ x. one_if (p x)) g gates in
    elim (p g) as (λ v. p g ≡ v → (p g || some_gate p gates) ≡ true) [
      | true ↦ λ e. first_true (p g) (some_gate p gates) e
      | false ↦ λ e. let z : one_if (p g) ≡ 0 = ap one_if e in second_true (p g) (some_gate p gates) (sum_some p gates (omega (arith, c, z)))
    ] refl

fed_is_some : (gates : List Gate) (a b : ℕ) → is_fed_by gates a b ≡ some_gate (λ g. is_among g.outputs a && is_input g.inputs b) gates
unfolding some_gate
fed_is_some [] a b = refl
fed_is_some (g ∷ gates) a b = ap (λ v. is_among g.outputs a && is_input g.inputs b || v) (fed_is_some gates a b)

pub driven_is_some : (gates : List Gate) (k : ℕ) → is_driven gates k ≡ some_gate (λ g. is_among g.outputs k) gates
unfolding some_gate
driven_is_some [] k = refl
driven_is_some (g ∷ gates) k = ap (λ v. is_among g.outputs k || v) (driven_is_some gates k)

-- what holds of some gate of a part holds of some gate of the whole
pub part_some : (p : Gate → Bool) (a b all : List Gate) → ((f : Gate → ℕ) → sum_by f a + sum_by f b ≡ sum_by f all) → some_gate p b ≡ true → some_gate p all ≡ true
part_some p a b all h s =
    let i = some_sum p b s in
    let e = h (λ g. one_if (p g)) in
    sum_some p all (omega (arith, i, e))

pub sum_none : (p : Gate → Bool) (gates : List Gate) → some_gate p gates ≡ false → sum_by (λ g. one_if (p g)) gates ≡ 0
unfolding some_gate
sum_none p [] h = refl
sum_none p (g ∷ gates) h =
    let c = sum_by-cons (λ x. one_if (p x)) g gates in
    let j = neither (p g) (some_gate p gates) h in
    let z : one_if (p g) ≡ 0 = ap one_if j.0 in
    let r = sum_none p gates j.1 in
    omega (arith, c, z, r)

whole_some : (p : Gate → Bool) (a b all : List Gate) → ((f : Gate → ℕ) → sum_by f a + sum_by f b ≡ sum_by f all) → some_gate p all ≡ true → some_gate p a ≡ false → some_gate p b ≡ true
whole_some p a b all h s n =
    let i = some_sum p all s in
    let e = h (λ g. one_if (p g)) in
    elim (some_gate p b) as (λ v. some_gate p b ≡ v → some_gate p b ≡ true) [
      | true ↦ λ t. t
      | false ↦ λ t.
          let z : sum_by (λ g. one_if (p g)) a + sum_by (λ g. one_if (p g)) b ≡ 0 = omega (arith, sum_none p a n, sum_none p b t) in
          absurd (omega (arith, i, e, z))
    ] refl

-- the same gates have the same
pub same_some : (p : Gate → Bool) (a b : List Gate) → ((f : Gate → ℕ) → sum_by f a ≡ sum_by f b) → some_gate p a ≡ some_gate p b
same_some p a b h =
    let e = h (λ g. one_if (p g)) in
    elim (some_gate p a) as (λ v. some_gate p a ≡ v → some_gate p a ≡ some_gate p b) [
      | true ↦ λ t. let i = some_sum p a t in t ∙ sym (sum_some p b (omega (arith, i, e)))
      | false ↦ λ t.
          let i = sum_none p a t in
          t ∙ sym (elim (some_gate p b) as (λ w. some_gate p b ≡ w → some_gate p b ≡ false) [
            | true ↦ λ u. let j = some_sum p b u in absurd (omega (arith, i, j, e))
            | false ↦ λ u. u
          ] refl)
    ] refl

pub fed_same : (a b : List Gate) → ((f : Gate → ℕ) → sum_by f a ≡ sum_by f b) → (m n : ℕ) → is_fed_by a m n ≡ is_fed_by b m n
fed_same a b h m n = fed_is_some a m n ∙ same_some (λ g. is_among g.outputs m && is_input g.inputs n) a b h ∙ sym (fed_is_some b m n)

pub depends_same : (a b : List Gate) → ((f : Gate → ℕ) → sum_by f a ≡ sum_by f b) → (m n : ℕ) → DependsOn a m n → DependsOn b m n
depends_same a b h m n (directly f) = directly (sym (fed_same a b h m n) ∙ f)
depends_same a b h m n (through {b = k} f d) = through (sym (fed_same a b h m k) ∙ f) (depends_same a b h k n d)

-- ---- marks after gates

pub after_length : (gates : List Gate) (b : Bool) (known : List Bool) → length (known_after gates b known) ≡ length known
after_length [] b known = refl
after_length (g ∷ gates) b known = after_length gates b (marked g.outputs b known) ∙ marked_long g.outputs b known

pub marked_other : (os : List ℕ) (b : Bool) (known : List Bool) (k : ℕ) → is_among os k ≡ false → is_known (marked os b known) k ≡ is_known known k
marked_other [] b known k h = refl
marked_other (o ∷ os) b known k h =
    let i = neither (o == k) (is_among os k) h in
    marked_other os b (slice_set known o b) k i.1 ∙ get_or-set_other known o k b true (apart_of o k i.0)

pub after_apart : (gates : List Gate) (b : Bool) (known : List Bool) (k : ℕ) → is_driven gates k ≡ false → is_known (known_after gates b known) k ≡ is_known known k
after_apart [] b known k h = refl
after_apart (g ∷ gates) b known k h =
    let i = neither (is_among g.outputs k) (is_driven gates k) h in
    after_apart gates b (marked g.outputs b known) k i.1 ∙ marked_other g.outputs b known k i.0

after_keeps : (gates : List Gate) (known : List Bool) (k : ℕ) → is_known known k ≡ true → is_known (known_after gates true known) k ≡ true
after_keeps [] known k h = h
after_keeps (g ∷ gates) known k h = after_keeps gates (marked g.outputs true known) k (marked_keeps g.outputs known k h)

after_driven : (gates : List Gate) (known : List Bool) (k : ℕ) → is_driven gates k ≡ true → is_known (known_after gates true known) k ≡ true
after_driven [] known k h = absurd (cc)
after_driven (g ∷ gates) known k h = elim (either (is_among g.outputs k) (is_driven gates k) h) [
  | inl x ↦ after_keeps gates (marked g.outputs true known) k (among_known g.outputs known k x)
  | inr y ↦ after_driven gates (marked g.outputs true known) k y
]

set_off : (known : List Bool) (o : ℕ) → o < length known → is_known (slice_set known o false) o ≡ false
set_off known o lt = get_or-set_same known o false true lt

off_keeps : (known : List Bool) (o k : ℕ) → is_known known k ≡ false → is_known (slice_set known o false) k ≡ false
off_keeps [] o k h = h
off_keeps (b ∷ known) zero zero h = refl
off_keeps (b ∷ known) zero (suc k) h = h
off_keeps (b ∷ known) (suc o) zero h = h
off_keeps (b ∷ known) (suc o) (suc k) h = off_keeps known o k h

marked_off_keeps : (os : List ℕ) (known : List Bool) (k : ℕ) → is_known known k ≡ false → is_known (marked os false known) k ≡ false
marked_off_keeps [] known k h = h
marked_off_keeps (o ∷ os) known k h = marked_off_keeps os (slice_set known o false) k (off_keeps known o k h)

marked_off : (os : List ℕ) (known : List Bool) (k : ℕ) → k < length known → is_among os k ≡ true → is_known (marked os false known) k ≡ false
marked_off [] known k lt h = absurd (cc)
marked_off (o ∷ os) known k lt h =
    let long : length (slice_set known o false) ≡ length known = length-set known o false in
    elim (either (o == k) (is_among os k) h) [
      | inl e ↦ let s : o ≡ k = same_of o k e in marked_off_keeps os (slice_set known o false) k (subst (λ n. is_known (slice_set known n false) k ≡ false) (sym s) (set_off known k lt))
      | inr a ↦ marked_off os (slice_set known o false) k (omega arith) a
    ]

after_off_keeps : (gates : List Gate) (known : List Bool) (k : ℕ) → is_known known k ≡ false → is_known (known_after gates false known) k ≡ false
after_off_keeps [] known k h = h
after_off_keeps (g ∷ gates) known k h = after_off_keeps gates (marked g.outputs false known) k (marked_off_keeps g.outputs known k h)

pub after_off : (gates : List Gate) (known : List Bool) (k : ℕ) → k < length known → is_driven gates k ≡ true → is_known (known_after gates false known) k ≡ false
after_off [] known k lt h = absurd (cc)
after_off (g ∷ gates) known k lt h =
    let long : length (marked g.outputs false known) ≡ length known = marked_long g.outputs false known in
    elim (either (is_among g.outputs k) (is_driven gates k) h) [
      | inl x ↦ after_off_keeps gates (marked g.outputs false known) k (marked_off g.outputs known k lt x)
      | inr y ↦ after_off gates (marked g.outputs false known) k (omega arith) y
    ]

all_on : (n k : ℕ) → is_known (replicate n true) k ≡ true
all_on zero k = refl
all_on (suc n) zero = refl
all_on (suc n) (suc k) = all_on n k

-- ---- where no gate is ready

finds_input : (known : List Bool) (inputs : List Operand) → all_known known inputs ≡ false → (b : ℕ) × (is_input inputs b ≡ true) × (is_known known b ≡ false)
finds_input known [] h = absurd (cc)
finds_input known (Net n ∷ inputs) h = elim (one_false (is_known known n) (all_known known inputs) h) [
  | inl x ↦ (n, first_true (n == n) (is_input inputs n) (eq_self n), x)
  | inr y ↦ let r = finds_input known inputs y in (r.0, second_true (n == r.0) (is_input inputs r.0) r.1, r.2)
]
finds_input known (Constant v ∷ inputs) h = let r = finds_input known inputs h in (r.0, r.1, r.2)

pub all_are_unknown : (known : List Bool) (os : List ℕ) → ((o : ℕ) → is_among os o ≡ true → is_known known o ≡ false) → all_unknown known os ≡ true
all_are_unknown known [] h = refl
all_are_unknown known (o ∷ os) h = each_true (not (is_known known o)) (all_unknown known os) (ap not (h o (first_true (o == o) (is_among os o) (eq_self o)))) (all_are_unknown known os (λ k a. h k (second_true (o == k) (is_among os k) a)))

waits_for : (known : List Bool) (g : Gate) → is_ready known g ≡ false → ((o : ℕ) → is_among g.outputs o ≡ true → is_known known o ≡ false) → (b : ℕ) × (is_input g.inputs b ≡ true) × (is_known known b ≡ false)
waits_for known g r h = elim (one_false (all_known known g.inputs) (all_unknown known g.outputs) r) [
  | inl x ↦ finds_input known g.inputs x
  | inr y ↦ let t : all_unknown known g.outputs ≡ true = all_are_unknown known g.outputs h in absurd (cc)
]

fed_by_unknown : (known : List Bool) (gates : List Gate) (k : ℕ) → none_ready known gates ≡ true → ((o : ℕ) → is_driven gates o ≡ true → is_known known o ≡ false) → is_driven gates k ≡ true → (b : ℕ) × (is_fed_by gates k b ≡ true) × (is_known known b ≡ false)
fed_by_unknown known [] k n h d = absurd (cc)
fed_by_unknown known (g ∷ gates) k n h d =
    let i = both (not (is_ready known g)) (none_ready known gates) n in
    elim (either (is_among g.outputs k) (is_driven gates k) d) [
      | inl x ↦
          let r = waits_for known g (not_known (is_ready known g) i.0) (λ o a. h o (first_true (is_among g.outputs o) (is_driven gates o) a)) in
          (r.0, first_true (is_among g.outputs k && is_input g.inputs r.0) (is_fed_by gates k r.0) (each_true (is_among g.outputs k) (is_input g.inputs r.0) x r.1), r.2)
      | inr y ↦
          let r = fed_by_unknown known gates k i.1 (λ o a. h o (second_true (is_among g.outputs o) (is_driven gates o) a)) y in
          (r.0, second_true (is_among g.outputs k && is_input g.inputs r.0) (is_fed_by gates k r.0) r.1, r.2)
    ]

-- The gates are parted into sorted and waiting ones, of which none is ready.
pub record AreStuck (nets : ℕ) (all sorted waiting : List Gate) : Type 0 where
  pub parted : (f : Gate → ℕ) → sum_by f sorted + sum_by f waiting ≡ sum_by f all
  pub stuck : none_ready (known_after sorted true (known_at_first nets all)) waiting ≡ true
  pub in_range : (k : ℕ) → is_driven all k ≡ true → k < nets
  -- no net is driven from both parts
  pub apart : (k : ℕ) → is_driven waiting k ≡ true → is_driven sorted k ≡ false

pub replicate_long : (n : ℕ) → length (replicate n true) ≡ n
replicate_long zero = refl
replicate_long (suc n) = let i : length (replicate n true) ≡ n = replicate_long n in omega (arith, i)

pub all_driven : (sorted waiting all : List Gate) → ((f : Gate → ℕ) → sum_by f sorted + sum_by f waiting ≡ sum_by f all) → (k : ℕ) → is_driven waiting k ≡ true → is_driven all k ≡ true
all_driven sorted waiting all h k d = driven_is_some all k ∙ part_some (λ g. is_among g.outputs k) sorted waiting all h (sym (driven_is_some waiting k) ∙ d)

pub stuck_loop : (nets : ℕ) (all sorted : List Gate) (g : Gate) (others : List Gate) → AreStuck nets all sorted (g ∷ others) → (n : ℕ) × (n < nets) × DependsOn all n n
stuck_loop nets all sorted g others s =
    let waiting : List Gate = g ∷ others in
    let first : List Bool = known_at_first nets all in
    let bad : List Bool = known_after sorted true first in
    let unknown : (o : ℕ) → is_driven waiting o ≡ true → is_known bad o ≡ false = λ o w.
    let lt : o < nets = s.in_range o (all_driven sorted waiting all s.parted o w) in
    let long : length (replicate nets true) ≡ nets = replicate_long nets in
    after_apart sorted true first o (s.apart o w) ∙ after_off all (replicate nets true) o (omega arith) (all_driven sorted waiting all s.parted o w) in
    let driven : (o : ℕ) → is_known bad o ≡ false → is_driven all o ≡ true = λ o u.
    elim (is_driven all o) as (λ v. is_driven all o ≡ v → is_driven all o ≡ true) [
      | true ↦ λ e. e
      | false ↦ λ e.
          let t : is_known first o ≡ true = after_apart all false (replicate nets true) o e ∙ all_on nets o in
          let c : is_known bad o ≡ true = after_keeps sorted first o t in absurd (cc)
    ] refl in
    let waits : (o : ℕ) → is_known bad o ≡ false → is_driven waiting o ≡ true = λ o u.
    let free : is_driven sorted o ≡ false = elim (is_driven sorted o) as (λ v. is_driven sorted o ≡ v → is_driven sorted o ≡ false) [
      | true ↦ λ e. let c : is_known bad o ≡ true = after_driven sorted first o e in absurd (cc)
      | false ↦ λ e. e
    ] refl in
    driven_is_some waiting o ∙ whole_some (λ g. is_among g.outputs o) sorted waiting all s.parted (sym (driven_is_some all o) ∙ driven o u) (sym (driven_is_some sorted o) ∙ free) in
    let u = waits_for bad g (not_known (is_ready bad g) (both (not (is_ready bad g)) (none_ready bad others) s.stuck).0) (λ o a. unknown o (first_true (is_among g.outputs o) (is_driven others o) a)) in
    let r = goes_round all bad (λ a u.
    let f = fed_by_unknown bad waiting a s.stuck unknown (waits a u) in
    (f.0, fed_is_some all a f.0 ∙ part_some (λ g. is_among g.outputs a && is_input g.inputs f.0) sorted waiting all s.parted (sym (fed_is_some waiting a f.0) ∙ f.1), f.2)) u.0 u.2 in
    (r.0, s.in_range r.0 (driven r.0 r.1), r.2)

-- gates in another order leave the same nets without a driver
pub same_at_first : (nets : ℕ) (a b : List Gate) → ((k : ℕ) → is_driven a k ≡ is_driven b k) → known_at_first nets a ≡ known_at_first nets b
same_at_first nets a b h =
    let la : length (known_at_first nets a) ≡ nets = after_length a false (replicate nets true) ∙ replicate_long nets in
    let lb : length (known_at_first nets b) ≡ nets = after_length b false (replicate nets true) ∙ replicate_long nets in
    ext_get_or true (known_at_first nets a) (known_at_first nets b) (la ∙ sym lb) (λ k lt.
    let long : length (replicate nets true) ≡ nets = replicate_long nets in
    let in_range : k < length (replicate nets true) = omega arith in
    elim (is_driven b k) as (λ v. is_driven b k ≡ v → is_known (known_at_first nets a) k ≡ is_known (known_at_first nets b) k) [
      | true ↦ λ e. after_off a (replicate nets true) k in_range (h k ∙ e) ∙ sym (after_off b (replicate nets true) k in_range e)
      | false ↦ λ e. after_apart a false (replicate nets true) k (h k ∙ e) ∙ sym (after_apart b false (replicate nets true) k e)
    ] refl)

-- where nothing waits, the sorted gates are all
pub driven_same : (sorted all : List Gate) → ((f : Gate → ℕ) → sum_by f sorted ≡ sum_by f all) → (k : ℕ) → is_driven all k ≡ is_driven sorted k
driven_same sorted all h k =
    let p : Gate → Bool = λ g. is_among g.outputs k in
    driven_is_some all k ∙ same_some p all sorted (λ f. sym (h f)) ∙ sym (driven_is_some sorted k)

pub first_long : (nets : ℕ) (gates : List Gate) → length (known_at_first nets gates) ≡ nets
first_long nets gates = after_length gates false (replicate nets true) ∙ replicate_long nets

pub among_times : (os : List ℕ) (k : ℕ) → is_among os k ≡ true → 0 < times os k
among_times [] k h = absurd (cc)
among_times (o ∷ os) k h = elim (either (o == k) (is_among os k) h) [
  | inl e ↦ let t : times (o ∷ os) k ≡ 1 + times os k = ap (λ v. (if v then 1 else 0) + times os k) e in omega (arith, t)
  | inr a ↦ let i = among_times os k a in omega (arith, i)
]

pub driven_count : (gates : List Gate) (k : ℕ) → is_driven gates k ≡ true → 0 < drivers gates k
driven_count [] k h = absurd (cc)
driven_count (g ∷ gates) k h =
    let c = sum_by-cons (λ x. times x.outputs k) g gates in
    elim (either (is_among g.outputs k) (is_driven gates k) h) [
      | inl x ↦ let i = among_times g.outputs k x in omega (arith, c, i)
      | inr y ↦ let i = driven_count gates k y in omega (arith, c, i)
    ]

-- where a net has one driver at most, one part alone drives it
pub apart_by_count : (sorted waiting all : List Gate) (k : ℕ) → ((f : Gate → ℕ) → sum_by f sorted + sum_by f waiting ≡ sum_by f all) → drivers all k ≤ 1 → is_driven waiting k ≡ true → is_driven sorted k ≡ false
apart_by_count sorted waiting all k h one w =
    elim (is_driven sorted k) as (λ v. is_driven sorted k ≡ v → is_driven sorted k ≡ false) [
      | true ↦ λ e.
          let a = driven_count sorted k e in
          let b = driven_count waiting k w in
          let s = h (λ g. times g.outputs k) in
          absurd (omega (arith, a, b, s, one))
      | false ↦ λ e. e
    ] refl
