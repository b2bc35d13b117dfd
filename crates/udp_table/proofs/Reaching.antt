-- What is reached at a subset is what the orders of its inputs end in.
use Rattle.std.proofs.Common.{◌≡◌, ◌↔◌, ℕ, ◌+◌, ◌-◌, ◌*◌, ◌/◌, ◌%◌, ◌^◌, ◌<◌, ◌≤◌, Bool, true, false, cond, eqb, ◌||◌, List, [], ◌∷◌, ◌++◌, map, length, get_or, set, refl, ap, sym, ◌∙◌, subst, ◌⊎◌, inl, inr, ⊎_elim, arith, eq-eqb, zero-add, mul-one, one-mul}
use Rattle.std.proofs.Math.ListN.{length-set}
use Rattle.std.proofs.lemmas.Bool.{cases_eq, ne_eqb, or_cases, or_left, or_right}
use Rattle.std.proofs.lemmas.List.{get_or-set_same, get_or-set_other, ext_get_or}
use Rattle.tern_core.specs.declared.tern.Tern.{Tern}
use Rattle.tern_core.specs.declared.tern.Tern.TheVariants.{Zero, One, Unknown}
use Rattle.udp_table.specs.declared.states.States.{States}
use Rattle.udp_table.specs.declared.row.Row.{Row}
use Rattle.udp_table.specs.Rows.{case_of}
use Rattle.udp_table.specs.Answers.{answer_of}
use Rattle.udp_table.specs.Orders.{state_after}
use Rattle.udp_table.specs.Subsets.{has, none, only, union, next_from, next_states, members, levels_after, gathered}
use Rattle.udp_table.specs.Reached.{times, IsOrderOf, EndsIn, AreEnds, AreEndsBelow}
use Rattle.udp_table.proofs.Orders.{Among, among_map, among_map-from, times-append, times-same}
use Rattle.udp_table.proofs.Subsets.{picks, doubled, picks-are, picks-have, members-times, members-some, members-zero}

-- ---- sets of states

has-union : (s t : States) (v : Tern) → has (union s t) v ≡ (has s v || has t v)
has-union s t Zero = refl
has-union s t One = refl
has-union s t Unknown = refl

has-none : (v : Tern) → has none v ≡ false
has-none Zero = refl
has-none One = refl
has-none Unknown = refl

has-only : (u v : Tern) → has (only u) v ≡ true → u ≡ v
has-only Zero Zero h = refl
has-only Zero One h = cc
has-only Zero Unknown h = cc
has-only One Zero h = cc
has-only One One h = refl
has-only One Unknown h = cc
has-only Unknown Zero h = cc
has-only Unknown One h = cc
has-only Unknown Unknown h = refl

has-itself : (u : Tern) → has (only u) u ≡ true
has-itself Zero = refl
has-itself One = refl
has-itself Unknown = refl

-- ---- the levels after some inputs have changed

levels_after-append : (order : List ℕ) (x : ℕ) (new levels : List Tern) → levels_after (order ++ x ∷ []) new levels ≡ set (levels_after order new levels) x (get_or new x Unknown)
levels_after-append [] x new levels = refl
levels_after-append (y ∷ order) x new levels = levels_after-append order x new (set levels y (get_or new y Unknown))

pub length-levels_after : (order : List ℕ) (new levels : List Tern) → length (levels_after order new levels) ≡ length levels
length-levels_after [] new levels = refl
length-levels_after (y ∷ order) new levels =
    length-levels_after order new (set levels y (get_or new y Unknown)) ∙ length-set levels y (get_or new y Unknown)

either : (b : Bool) (v : Tern) → cond b v v ≡ v
either true v = refl
either false v = refl

counted : (k y : ℕ) (order : List ℕ) → (k ≡ y → ⊥) → times k (y ∷ order) ≡ times k order
counted k y order h = ap (λ b. cond b 1 0 + times k order) (ne_eqb k y h) ∙ zero-add (times k order)

-- an input has its new value where it is among them
level_at : (order : List ℕ) (new levels : List Tern) (k : ℕ) → k < length levels → get_or (levels_after order new levels) k Unknown ≡ cond (eqb (times k order) 0) (get_or levels k Unknown) (get_or new k Unknown)
level_at [] new levels k h = refl
level_at (y ∷ order) new levels k h =
    let next = set levels y (get_or new y Unknown) in
    let inside : k < length next = omega (arith, length-set levels y (get_or new y Unknown)) in
    let rest = level_at order new next k inside in
    ⊎_elim
    (λ same.
    let written : get_or next k Unknown ≡ get_or new k Unknown = subst (λ z. get_or (set levels z (get_or new z Unknown)) k Unknown ≡ get_or new k Unknown) same (get_or-set_same levels k (get_or new k Unknown) Unknown h) in
    rest ∙ ap (λ v. cond (eqb (times k order) 0) v (get_or new k Unknown)) written ∙ either (eqb (times k order) 0) (get_or new k Unknown)
    ∙ sym (ap (λ b. cond (eqb (cond b 1 0 + times k order) 0) (get_or levels k Unknown) (get_or new k Unknown)) (eq-eqb k y same) ∙ ap (λ b. cond b (get_or levels k Unknown) (get_or new k Unknown)) (ne_eqb (1 + times k order) 0 (λ e. omega arith))))
    (λ other.
    rest ∙ ap (λ v. cond (eqb (times k order) 0) v (get_or new k Unknown)) (get_or-set_other levels y k (get_or new y Unknown) Unknown other)
    ∙ ap (λ n. cond (eqb n 0) (get_or levels k Unknown) (get_or new k Unknown)) (sym (counted k y order other))) (cases_eq k y)

pub levels-same : (xs order : List ℕ) (new old : List Tern) → IsOrderOf xs order → levels_after order new old ≡ levels_after xs new old
levels-same xs order new old h =
    ext_get_or Unknown (levels_after order new old) (levels_after xs new old)
    (length-levels_after order new old ∙ sym (length-levels_after xs new old))
    (λ k below.
    let inside : k < length old = omega (arith, length-levels_after order new old) in
    level_at order new old k inside ∙ ap (λ n. cond (eqb n 0) (get_or old k Unknown) (get_or new k Unknown)) (h k) ∙ sym (level_at xs new old k inside))

-- ---- one input more

state_after-append : (rows : List Row) (new : List Tern) (order : List ℕ) (x : ℕ) (levels : List Tern) (state : Tern) → state_after rows new (order ++ x ∷ []) levels state ≡ answer_of rows (case_of x (get_or (levels_after order new levels) x Unknown) (levels_after (order ++ x ∷ []) new levels) (state_after rows new order levels state))
state_after-append rows new [] x levels state = refl
state_after-append rows new (y ∷ order) x levels state =
    let next = set levels y (get_or new y Unknown) in
    state_after-append rows new order x next (answer_of rows (case_of y (get_or levels y Unknown) next state))

module _ (rows : List Row) (old new : List Tern) (state : Tern) where
  -- the state after x has changed last, where it hasn't changed before
  last_change : (xs order : List ℕ) (x : ℕ) → x < length old → times x xs ≤ 1 → IsOrderOf xs (order ++ x ∷ []) → state_after rows new (order ++ x ∷ []) old state ≡ answer_of rows (case_of x (get_or old x Unknown) (levels_after xs new old) (state_after rows new order old state))
  last_change xs order x inside once is =
      let absent : times x order ≡ 0 = omega (arith, is x, times-append x order (x ∷ []), times-same x []) in
      let before : get_or (levels_after order new old) x Unknown ≡ get_or old x Unknown = level_at order new old x inside ∙ ap (λ n. cond (eqb n 0) (get_or old x Unknown) (get_or new x Unknown)) absent in
      state_after-append rows new order x old state
      ∙ ap (λ v. answer_of rows (case_of x v (levels_after (order ++ x ∷ []) new old) (state_after rows new order old state))) before
      ∙ ap (λ ls. answer_of rows (case_of x (get_or old x Unknown) ls (state_after rows new order old state))) (levels-same xs (order ++ x ∷ []) new old is)

  reach_from : (xs rest : List ℕ) (x : ℕ) (u v : Tern) → x < length old → times x xs ≤ 1 → ((w : ℕ) → times w (x ∷ rest) ≡ times w xs) → EndsIn rows old new state rest u → answer_of rows (case_of x (get_or old x Unknown) (levels_after xs new old) u) ≡ v → EndsIn rows old new state xs v
  reach_from xs rest x u v inside once is ends gives =
      let order = ends.0 in
      let ordered : IsOrderOf xs (order ++ x ∷ []) = λ w. omega (arith, is w, ends.1 w, times-append w order (x ∷ [])) in
      (order ++ x ∷ [], ordered, last_change xs order x inside once ordered ∙ ap (λ s. answer_of rows (case_of x (get_or old x Unknown) (levels_after xs new old) s)) ends.2 ∙ gives)

  reach_to : (xs order : List ℕ) (x : ℕ) (v : Tern) → x < length old → times x xs ≤ 1 → IsOrderOf xs (order ++ x ∷ []) → state_after rows new (order ++ x ∷ []) old state ≡ v → answer_of rows (case_of x (get_or old x Unknown) (levels_after xs new old) (state_after rows new order old state)) ≡ v
  reach_to xs order x v inside once is gives = sym (last_change xs order x inside once is) ∙ gives

-- ---- what the states of a set change to

from_cases : (rows : List Row) (x : ℕ) (o : Tern) (levels : List Tern) (s : States) (u v : Tern) (b : Bool) → has s u ≡ b → has (cond b (only (answer_of rows (case_of x o levels u))) none) v ≡ true → (has s u ≡ true) × (answer_of rows (case_of x o levels u) ≡ v)
from_cases rows x o levels s u v true e h = (e, has-only (answer_of rows (case_of x o levels u)) v h)
from_cases rows x o levels s u v false e h = let no = has-none v in absurd (cc)

from-has : (rows : List Row) (x : ℕ) (o : Tern) (levels : List Tern) (s : States) (u v : Tern) → has (next_from rows x o levels s u) v ≡ true → (has s u ≡ true) × (answer_of rows (case_of x o levels u) ≡ v)
from-has rows x o levels s u v h = from_cases rows x o levels s u v (has s u) refl h

has-from : (rows : List Row) (x : ℕ) (o : Tern) (levels : List Tern) (s : States) (u v : Tern) → has s u ≡ true → answer_of rows (case_of x o levels u) ≡ v → has (next_from rows x o levels s u) v ≡ true
has-from rows x o levels s u v h e =
    ap (λ b. has (cond b (only (answer_of rows (case_of x o levels u))) none) v) h ∙ ap (λ w. has (only (answer_of rows (case_of x o levels u))) w) (sym e) ∙ has-itself (answer_of rows (case_of x o levels u))

pub next-has : (rows : List Row) (x : ℕ) (o : Tern) (levels : List Tern) (s : States) (v : Tern) → has (next_states rows x o levels s) v ≡ true → (u : Tern) × (has s u ≡ true) × (answer_of rows (case_of x o levels u) ≡ v)
next-has rows x o levels s v h =
    let zero = next_from rows x o levels s Zero in
    let one = next_from rows x o levels s One in
    let unknown = next_from rows x o levels s Unknown in
    ⊎_elim (λ z. let r = from-has rows x o levels s Zero v z in (Zero, r.0, r.1)) (λ k.
    ⊎_elim (λ z. let r = from-has rows x o levels s One v z in (One, r.0, r.1)) (λ z. let r = from-has rows x o levels s Unknown v z in (Unknown, r.0, r.1))
    (or_cases (has one v) (has unknown v) (sym (has-union one unknown v) ∙ k)))
    (or_cases (has zero v) (has (union one unknown) v) (sym (has-union zero (union one unknown) v) ∙ h))

in_one : (u : Tern) (rows : List Row) (x : ℕ) (o : Tern) (levels : List Tern) (s : States) (v : Tern) → has (next_from rows x o levels s u) v ≡ true → (has (next_from rows x o levels s Zero) v || (has (next_from rows x o levels s One) v || has (next_from rows x o levels s Unknown) v)) ≡ true
in_one Zero rows x o levels s v h = or_left (has (next_from rows x o levels s Zero) v) (has (next_from rows x o levels s One) v || has (next_from rows x o levels s Unknown) v) h
in_one One rows x o levels s v h = or_right (has (next_from rows x o levels s Zero) v) (has (next_from rows x o levels s One) v || has (next_from rows x o levels s Unknown) v) (or_left (has (next_from rows x o levels s One) v) (has (next_from rows x o levels s Unknown) v) h)
in_one Unknown rows x o levels s v h = or_right (has (next_from rows x o levels s Zero) v) (has (next_from rows x o levels s One) v || has (next_from rows x o levels s Unknown) v) (or_right (has (next_from rows x o levels s One) v) (has (next_from rows x o levels s Unknown) v) h)

pub has-next : (rows : List Row) (x : ℕ) (o : Tern) (levels : List Tern) (s : States) (u v : Tern) → has s u ≡ true → answer_of rows (case_of x o levels u) ≡ v → has (next_states rows x o levels s) v ≡ true
has-next rows x o levels s u v h e =
    let zero = next_from rows x o levels s Zero in
    let one = next_from rows x o levels s One in
    let unknown = next_from rows x o levels s Unknown in
    has-union zero (union one unknown) v ∙ ap (λ b. has zero v || b) (has-union one unknown v) ∙ in_one u rows x o levels s v (has-from rows x o levels s u v h e)

-- ---- what is gathered from the subsets without one input

-- v is reached from the subset without this element
abbrev pub From : List Row → List Tern → List Tern → List States → ℕ → ℕ → ℕ × ℕ → Tern → Type 0
From rows old levels places subset weight p v =
    has (next_states rows p.0 (get_or old p.0 Unknown) levels (get_or places (subset - p.1 * weight) none)) v ≡ true

abbrev pub FromSome : List Row → List Tern → List Tern → List States → ℕ → List ℕ → ℕ → ℕ → Tern → Type 0
FromSome rows old levels places subset xs left weight v =
    (p : ℕ × ℕ) × Among p (picks xs left) × From rows old levels places subset weight p v

doubled_from : (rows : List Row) (old levels : List Tern) (places : List States) (subset weight : ℕ) (p : ℕ × ℕ) (v : Tern) → From rows old levels places subset (weight * 2) p v → From rows old levels places subset weight (doubled p) v
doubled_from rows old levels places subset weight p v h =
    let same : p.1 * (weight * 2) ≡ 2 * p.1 * weight = omega arith in
    subst (λ n. has (next_states rows p.0 (get_or old p.0 Unknown) levels (get_or places (subset - n) none)) v ≡ true) same h

halved_from : (rows : List Row) (old levels : List Tern) (places : List States) (subset weight : ℕ) (p : ℕ × ℕ) (v : Tern) → From rows old levels places subset weight (doubled p) v → From rows old levels places subset (weight * 2) p v
halved_from rows old levels places subset weight p v h =
    let same : 2 * p.1 * weight ≡ p.1 * (weight * 2) = omega arith in
    subst (λ n. has (next_states rows p.0 (get_or old p.0 Unknown) levels (get_or places (subset - n) none)) v ≡ true) same h

module _ (rows : List Row) (old levels : List Tern) (places : List States) (subset : ℕ) (v : Tern) where
  -- what one element adds
  added : ℕ → ℕ → States
  added x weight = next_states rows x (get_or old x Unknown) levels (get_or places (subset - weight) none)

  gathered-to : (xs : List ℕ) (left weight : ℕ) (acc : States) → has (gathered rows old levels places subset xs left weight acc) v ≡ true → (has acc v ≡ true) ⊎ FromSome rows old levels places subset xs left weight v
  unfolding added
  gathered-to [] left weight acc h = inl h
  gathered-to (x ∷ xs) left weight acc h =
      let next = added x weight in
      let more : FromSome rows old levels places subset xs (left / 2) (weight * 2) v → (p : ℕ × ℕ) × Among p (map doubled (picks xs (left / 2))) × From rows old levels places subset weight p v = λ r.
      (doubled r.0, among_map doubled r.0 (picks xs (left / 2)) r.1, doubled_from rows old levels places subset weight r.0 v r.2) in
      ⊎_elim
      (λ odd.
      let bit = eq-eqb (left % 2) 1 odd in
      let step = gathered-to xs (left / 2) (weight * 2) (union acc next) (subst (λ b. has (gathered rows old levels places subset xs (left / 2) (weight * 2) (cond b (union acc next) acc)) v ≡ true) bit h) in
      let listed = λ (p : ℕ × ℕ). λ (k : Among p ((x, 1) ∷ map doubled (picks xs (left / 2)))). subst (λ b. Among p (cond b ((x, 1) ∷ map doubled (picks xs (left / 2))) (map doubled (picks xs (left / 2))))) (sym bit) k in
      ⊎_elim
      (λ here.
      ⊎_elim (λ a. inl a)
      (λ n. inr ((x, 1), listed (x, 1) (inl refl), subst (λ m. has (next_states rows x (get_or old x Unknown) levels (get_or places (subset - m) none)) v ≡ true) (sym (one-mul weight)) n))
      (or_cases (has acc v) (has next v) (sym (has-union acc next v) ∙ here)))
      (λ r. let s = more r in inr (s.0, listed s.0 (inr s.1), s.2)) step)
      (λ even.
      let bit = ne_eqb (left % 2) 1 even in
      let step = gathered-to xs (left / 2) (weight * 2) acc (subst (λ b. has (gathered rows old levels places subset xs (left / 2) (weight * 2) (cond b (union acc next) acc)) v ≡ true) bit h) in
      ⊎_elim (λ a. inl a)
      (λ r. let s = more r in inr (s.0, subst (λ b. Among s.0 (cond b ((x, 1) ∷ map doubled (picks xs (left / 2))) (map doubled (picks xs (left / 2))))) (sym bit) s.1, s.2)) step) (cases_eq (left % 2) 1)

  gathered-from : (xs : List ℕ) (left weight : ℕ) (acc : States) → (has acc v ≡ true) ⊎ FromSome rows old levels places subset xs left weight v → has (gathered rows old levels places subset xs left weight acc) v ≡ true
  unfolding added
  gathered-from [] left weight acc h = ⊎_elim (λ a. a) (λ r. absurd r.1) h
  gathered-from (x ∷ xs) left weight acc h =
      let next = added x weight in
      let less : (p : ℕ × ℕ) → Among p (map doubled (picks xs (left / 2))) → From rows old levels places subset weight p v → FromSome rows old levels places subset xs (left / 2) (weight * 2) v = λ p k f.
      let r = among_map-from doubled p (picks xs (left / 2)) k in
      (r.0, r.1, halved_from rows old levels places subset weight r.0 v (subst (λ q. From rows old levels places subset weight q v) r.2 f)) in
      ⊎_elim
      (λ odd.
      let bit = eq-eqb (left % 2) 1 odd in
      subst (λ b. has (gathered rows old levels places subset xs (left / 2) (weight * 2) (cond b (union acc next) acc)) v ≡ true) (sym bit)
      (gathered-from xs (left / 2) (weight * 2) (union acc next)
      (⊎_elim
      (λ a. inl (has-union acc next v ∙ or_left (has acc v) (has next v) a))
      (λ r.
      let listed = subst (λ b. Among r.0 (cond b ((x, 1) ∷ map doubled (picks xs (left / 2))) (map doubled (picks xs (left / 2))))) bit r.1 in
      ⊎_elim
      (λ e.
      let f = subst (λ q. From rows old levels places subset weight q v) e r.2 in
      let n : has next v ≡ true = subst (λ m. has (next_states rows x (get_or old x Unknown) levels (get_or places (subset - m) none)) v ≡ true) (one-mul weight) f in
      inl (has-union acc next v ∙ or_right (has acc v) (has next v) n))
      (λ k. inr (less r.0 k r.2)) listed) h)))
      (λ even.
      let bit = ne_eqb (left % 2) 1 even in
      subst (λ b. has (gathered rows old levels places subset xs (left / 2) (weight * 2) (cond b (union acc next) acc)) v ≡ true) (sym bit)
      (gathered-from xs (left / 2) (weight * 2) acc
      (⊎_elim (λ a. inl a)
      (λ r. inr (less r.0 (subst (λ b. Among r.0 (cond b ((x, 1) ∷ map doubled (picks xs (left / 2))) (map doubled (picks xs (left / 2))))) bit r.1) r.2)) h))) (cases_eq (left % 2) 1)

-- ---- the last of an order

last_of : (y : ℕ) (ys : List ℕ) → (front : List ℕ) × ((x : ℕ) × (y ∷ ys ≡ front ++ x ∷ []))
last_of y [] = ([], (y, refl))
last_of y (z ∷ zs) = let r = last_of z zs in (y ∷ r.0, (r.1.0, ap (λ us. y ∷ us) r.1.1))

cut_last : (w : ℕ) (order : List ℕ) → 0 < times w order → (front : List ℕ) × ((x : ℕ) × (order ≡ front ++ x ∷ []))
cut_last w [] h = absurd (omega arith)
cut_last w (y ∷ ys) h = last_of y ys

-- the first element's weight is 1
first_from : (rows : List Row) (old levels : List Tern) (places : List States) (subset : ℕ) (p : ℕ × ℕ) (v : Tern) → has (next_states rows p.0 (get_or old p.0 Unknown) levels (get_or places (subset - p.1) none)) v ≡ true → From rows old levels places subset 1 p v
first_from rows old levels places subset p v h =
    subst (λ m. has (next_states rows p.0 (get_or old p.0 Unknown) levels (get_or places (subset - m) none)) v ≡ true) (sym (mul-one p.1)) h

-- ---- each subset from those below it

module _ (rows : List Row) (old new : List Tern) (state : Tern) (changed : List ℕ) (inputs : (w : ℕ) → 0 < times w changed → w < length old) (once : (w : ℕ) → times w changed ≤ 1) where
  abbrev pub gathered_at : List States → ℕ → States
  gathered_at places subset =
      gathered rows old (levels_after (members changed subset) new old) places subset changed subset 1 none

  to_ends : (places : List States) (subset : ℕ) (v : Tern) → AreEndsBelow rows old new state changed places subset → has (gathered_at places subset) v ≡ true → EndsIn rows old new state (members changed subset) v
  to_ends places subset v below h =
      let xs = members changed subset in
      let levels = levels_after xs new old in
      ⊎_elim (λ none_has. let no = has-none v in absurd (cc))
      (λ r.
      let p = r.0 in
      let pick = picks-are changed subset p r.1 in
      let lower = subset - p.1 in
      let came : has (next_states rows p.0 (get_or old p.0 Unknown) levels (get_or places lower none)) v ≡ true = subst (λ m. has (next_states rows p.0 (get_or old p.0 Unknown) levels (get_or places (subset - m) none)) v ≡ true) (mul-one p.1) r.2 in
      let u = next-has rows p.0 (get_or old p.0 Unknown) levels (get_or places lower none) v came in
      let falls : lower < subset = omega (arith, pick.some, pick.below) in
      let there : 0 < times p.0 changed = omega (arith, pick.others p.0, times-same p.0 (members changed lower), members-times p.0 changed subset) in
      let single : times p.0 xs ≤ 1 = omega (arith, once p.0, members-times p.0 changed subset) in
      reach_from rows old new state xs (members changed lower) p.0 u.0 v (inputs p.0 there) single pick.others ((below lower falls u.0).0 u.1) u.2)
      (gathered-to rows old levels places subset v changed subset 1 none h)

  from_ends : (places : List States) (subset : ℕ) (v : Tern) → 0 < subset → subset < 2 ^ length changed → AreEndsBelow rows old new state changed places subset → EndsIn rows old new state (members changed subset) v → has (gathered_at places subset) v ≡ true
  from_ends places subset v some small below ends =
      let xs = members changed subset in
      let levels = levels_after xs new old in
      let member = members-some changed subset some small in
      let cut = cut_last member.0 ends.0 (omega (arith, ends.1 member.0, member.1)) in
      let front = cut.0 in
      let x = cut.1.0 in
      let is : IsOrderOf xs (front ++ x ∷ []) = λ w. sym (ap (times w) cut.1.1) ∙ ends.1 w in
      let gives : state_after rows new (front ++ x ∷ []) old state ≡ v = sym (ap (λ o. state_after rows new o old state) cut.1.1) ∙ ends.2 in
      let among : 0 < times x xs = omega (arith, is x, times-append x front (x ∷ []), times-same x []) in
      let d = picks-have x changed subset among in
      let pick = picks-are changed subset (x, d.0) d.1 in
      let lower = subset - d.0 in
      let falls : lower < subset = omega (arith, pick.some, pick.below) in
      let there : 0 < times x changed = omega (arith, among, members-times x changed subset) in
      let single : times x xs ≤ 1 = omega (arith, once x, members-times x changed subset) in
      let rest : IsOrderOf (members changed lower) front = λ w. omega (arith, is w, times-append w front (x ∷ []), pick.others w) in
      let u = state_after rows new front old state in
      let held : has (get_or places lower none) u ≡ true = (below lower falls u).1 (front, rest, refl) in
      let answer = reach_to rows old new state xs front x v (inputs x there) single is gives in
      let came : has (next_states rows x (get_or old x Unknown) levels (get_or places lower none)) v ≡ true = has-next rows x (get_or old x Unknown) levels (get_or places lower none) u v held answer in
      gathered-from rows old levels places subset v changed subset 1 none
      (inr ((x, d.0), d.1, first_from rows old levels places subset (x, d.0) v came))

  pub gathered-ends : (places : List States) (subset : ℕ) → 0 < subset → subset < 2 ^ length changed → AreEndsBelow rows old new state changed places subset → AreEnds rows old new state (members changed subset) (gathered_at places subset)
  gathered-ends places subset some small below v =
      (to_ends places subset v below, from_ends places subset v some small below)

-- the empty order ends in the state
nothing_left : (order : List ℕ) → IsOrderOf [] order → order ≡ []
nothing_left [] h = refl
nothing_left (x ∷ order) h = absurd (omega (arith, h x, times-same x order))

pub start-ends : (rows : List Row) (old new : List Tern) (state : Tern) (changed : List ℕ) → AreEnds rows old new state (members changed 0) (only state)
start-ends rows old new state changed v =
    subst (λ xs. (has (only state) v ≡ true) ↔ EndsIn rows old new state xs v) (sym (members-zero changed)) (
      λ h. ([], λ w. refl, has-only state v h),
      λ ends.
          let same : state ≡ v = subst (λ o. state_after rows new o old state ≡ v) (nothing_left ends.0 ends.1) ends.2 in
          subst (λ w. has (only state) w ≡ true) same (has-itself state),
    )
