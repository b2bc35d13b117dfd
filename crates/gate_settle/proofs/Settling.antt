-- One pass over gates in an order of dependence gives the one settled assignment.
use Rattle.std.proofs.Common.{◌≡◌, ℕ, suc, zero, ◌<◌, ◌⊎◌, ◌≢◌, inl, inr, Bool, true, false, List, [], ◌∷◌, length, map, get_or, refl, sym, ◌∙◌, ap, subst, arith}
use Rattle.std.specs.Prelude.{◌==◌, ◌&&◌, ◌||◌, not, slice_set}
use Rattle.std.proofs.lemmas.List.{get_or-set_same, get_or-set_other, ext_get_or}
use Rattle.std.proofs.Math.ListN.{length-set}
use Rattle.std.proofs.lemmas.Grind.{common_steps}
use native.Mathlib.Decide.{dec_lt}
use Rattle.tern_core.specs.declared.tern.Tern.{Tern}
use Rattle.tern_core.specs.declared.tern.Tern.TheVariants.{Unknown}
use Rattle.udp_table.specs.Table.{Table}
use Rattle.gate_settle.specs.declared.gate.Operand.{Operand}
use Rattle.gate_settle.specs.declared.gate.Operand.TheVariants.{Net, Constant}
use Rattle.gate_settle.specs.declared.gate.Gate.{Gate}
use Rattle.gate_settle.specs.Gates.{value_at, operand_value, function_value, gate_value, is_among, is_driven}
use Rattle.gate_settle.specs.Order.{is_known, marked, all_known, all_unknown, is_ordered}
use Rattle.gate_settle.specs.Settled.{AllHave, AreGatesSettled, AreSettled, written, values_after}

-- ---- Booleans

pub both : (a b : Bool) → (a && b) ≡ true → (a ≡ true) × (b ≡ true)
both true b h = (refl, h)
both false b h = absurd (cc)

pub neither : (a b : Bool) → (a || b) ≡ false → (a ≡ false) × (b ≡ false)
neither true b h = absurd (cc)
neither false b h = (refl, h)

pub none : (a b : Bool) → a ≡ false → b ≡ false → (a || b) ≡ false
none true b h k = absurd (cc)
none false b h k = k

pub not_known : (a : Bool) → not a ≡ true → a ≡ false
not_known true h = absurd (cc)
not_known false h = refl

pub apart_of : (o k : ℕ) → (o == k) ≡ false → k ≢ o
apart_of o k h e = absurd (grind (arith, common_steps, h, e))

pub same_of : (o k : ℕ) → (o == k) ≡ true → o ≡ k
same_of o k h = grind (arith, common_steps, h)

pub eq_self : (k : ℕ) → (k == k) ≡ true
eq_self k = grind (arith, common_steps)

-- ---- marks

-- a list after a write, at each place within it
pub at_place : {X : Type 0} (xs : List X) (o k : ℕ) (v d : X) → o < length xs → ((k ≡ o) × (get_or (slice_set xs o v) k d ≡ v)) ⊎ ((k ≢ o) × (get_or (slice_set xs o v) k d ≡ get_or xs k d))
at_place xs o k v d lt = elim (dec_lt k o) [
  | yes h ↦ let ne : k ≢ o = omega arith in inr (ne, get_or-set_other xs o k v d ne)
  | no h ↦ elim (dec_lt o k) [
    | yes i ↦ let ne : k ≢ o = omega arith in inr (ne, get_or-set_other xs o k v d ne)
    | no i ↦ let e : k ≡ o = omega arith in inl (e, rw e (get_or-set_same xs o v d lt))
  ]
]

unknown_within : (known : List Bool) (k : ℕ) → is_known known k ≡ false → k < length known
unknown_within [] k h = absurd (cc)
unknown_within (b ∷ known) zero h = omega arith
unknown_within (b ∷ known) (suc k) h = let i : k < length known = unknown_within known k h in omega arith

pub marked_long : (os : List ℕ) (b : Bool) (known : List Bool) → length (marked os b known) ≡ length known
marked_long [] b known = refl
marked_long (o ∷ os) b known = marked_long os b (slice_set known o b) ∙ length-set known o b

set_keeps : (known : List Bool) (o k : ℕ) → is_known known k ≡ true → is_known (slice_set known o true) k ≡ true
set_keeps [] o k h = refl
set_keeps (b ∷ known) zero zero h = refl
set_keeps (b ∷ known) zero (suc k) h = h
set_keeps (b ∷ known) (suc o) zero h = h
set_keeps (b ∷ known) (suc o) (suc k) h = set_keeps known o k h

pub marked_keeps : (os : List ℕ) (known : List Bool) (k : ℕ) → is_known known k ≡ true → is_known (marked os true known) k ≡ true
marked_keeps [] known k h = h
marked_keeps (o ∷ os) known k h = marked_keeps os (slice_set known o true) k (set_keeps known o k h)

-- what is known isn't among what is unknown
apart : (known : List Bool) (os : List ℕ) (k : ℕ) → all_unknown known os ≡ true → is_known known k ≡ true → is_among os k ≡ false
apart known [] k u h = refl
apart known (o ∷ os) k u h =
    let i = both (not (is_known known o)) (all_unknown known os) u in
    let f : is_known known o ≡ false = not_known (is_known known o) i.0 in
    let rest : is_among os k ≡ false = apart known os k i.1 h in
    elim (o == k) as (λ v. (o == k) ≡ v → (o == k || is_among os k) ≡ false) [
      | true ↦ λ e. let s : o ≡ k = same_of o k e in let t : is_known known k ≡ false = subst (λ n. is_known known n ≡ false) s f in absurd (cc)
      | false ↦ λ e. none (o == k) (is_among os k) e rest
    ] refl

-- what is known is driven by no gate that stands later
pub known_apart : (known : List Bool) (gates : List Gate) (k : ℕ) → is_ordered known gates ≡ true → is_known known k ≡ true → is_driven gates k ≡ false
known_apart known [] k o h = refl
known_apart known (g ∷ gates) k o h =
    let i = both (all_known known g.inputs) (all_unknown known g.outputs && is_ordered (marked g.outputs true known) gates) o in
    let j = both (all_unknown known g.outputs) (is_ordered (marked g.outputs true known) gates) i.1 in
    none (is_among g.outputs k) (is_driven gates k) (apart known g.outputs k j.0 h) (known_apart (marked g.outputs true known) gates k j.1 (marked_keeps g.outputs known k h))

set_known : (known : List Bool) (o : ℕ) → is_known (slice_set known o true) o ≡ true
set_known [] o = refl
set_known (b ∷ known) zero = refl
set_known (b ∷ known) (suc o) = set_known known o

-- outputs are known behind their gate
pub among_known : (os : List ℕ) (known : List Bool) (k : ℕ) → is_among os k ≡ true → is_known (marked os true known) k ≡ true
among_known [] known k h = absurd (cc)
among_known (o ∷ os) known k h =
    elim (o == k) as (λ v. (o == k) ≡ v → is_known (marked os true (slice_set known o true)) k ≡ true) [
      | true ↦ λ e. let s : o ≡ k = same_of o k e in marked_keeps os (slice_set known o true) k (subst (λ n. is_known (slice_set known o true) n ≡ true) s (set_known known o))
      | false ↦ λ e. let r : is_among os k ≡ true = sym (ap (λ v. v || is_among os k) e) ∙ h in among_known os (slice_set known o true) k r
    ] refl

-- ---- values

pub written_long : (os : List ℕ) (v : Tern) (nets : List Tern) → length (written os v nets) ≡ length nets
written_long [] v nets = refl
written_long (o ∷ os) v nets = written_long os v (slice_set nets o v) ∙ length-set nets o v

written_other : (os : List ℕ) (v : Tern) (nets : List Tern) (k : ℕ) → is_among os k ≡ false → value_at (written os v nets) k ≡ value_at nets k
written_other [] v nets k h = refl
written_other (o ∷ os) v nets k h =
    let i = neither (o == k) (is_among os k) h in
    let ne : k ≢ o = apart_of o k i.0 in
    written_other os v (slice_set nets o v) k i.1 ∙ get_or-set_other nets o k v Unknown ne

-- each net among them, and within the list, has the value
written_same : (os : List ℕ) (v : Tern) (nets : List Tern) (k : ℕ) → is_among os k ≡ true → k < length nets → value_at (written os v nets) k ≡ v
written_same [] v nets k h lt = absurd (cc)
written_same (o ∷ os) v nets k h lt =
    let long : length (slice_set nets o v) ≡ length nets = length-set nets o v in
    elim (is_among os k) as (λ w. is_among os k ≡ w → value_at (written os v (slice_set nets o v)) k ≡ v) [
      | true ↦ λ e. written_same os v (slice_set nets o v) k e (omega arith)
      | false ↦ λ e.
          let here : (o == k) ≡ true = elim (o == k) as (λ w. (o == k) ≡ w → (o == k) ≡ true) [ true ↦ λ f. f | false ↦ λ f. let c : (o == k || is_among os k) ≡ false = none (o == k) (is_among os k) f e in absurd (cc) ] refl in
          let s : o ≡ k = same_of o k here in
          written_other os v (slice_set nets o v) k e ∙ subst (λ n. value_at (slice_set nets o v) n ≡ v) s (get_or-set_same nets o v Unknown (omega arith))
    ] refl

module _ (tables : List Table) (states : List Tern) where
  pub after_long : (gates : List Gate) (nets : List Tern) → length (values_after tables states gates nets) ≡ length nets
  after_long [] nets = refl
  after_long (g ∷ gates) nets = after_long gates (written g.outputs (gate_value tables states nets g) nets) ∙ written_long g.outputs (gate_value tables states nets g) nets

  -- a net that no gate drives keeps its value
  pub after_other : (gates : List Gate) (nets : List Tern) (k : ℕ) → is_driven gates k ≡ false → value_at (values_after tables states gates nets) k ≡ value_at nets k
  after_other [] nets k h = refl
  after_other (g ∷ gates) nets k h =
      let i = neither (is_among g.outputs k) (is_driven gates k) h in
      after_other gates (written g.outputs (gate_value tables states nets g) nets) k i.1 ∙ written_other g.outputs (gate_value tables states nets g) nets k i.0

  pub same_levels : (known : List Bool) (a b : List Tern) (inputs : List Operand) → ((k : ℕ) → is_known known k ≡ true → value_at a k ≡ value_at b k) → all_known known inputs ≡ true → map (operand_value a) inputs ≡ map (operand_value b) inputs
  same_levels known a b [] h u = refl
  same_levels known a b (Net k ∷ inputs) h u =
      let i = both (is_known known k) (all_known known inputs) u in
      let e : value_at a k ≡ value_at b k = h k i.0 in
      let r : map (operand_value a) inputs ≡ map (operand_value b) inputs = same_levels known a b inputs h i.1 in cc
  same_levels known a b (Constant v ∷ inputs) h u = ap (λ vs. v ∷ vs) (same_levels known a b inputs h u)

  -- a gate gives the same where the nets that are known are the same
  same_value : (known : List Bool) (a b : List Tern) (g : Gate) → ((k : ℕ) → is_known known k ≡ true → value_at a k ≡ value_at b k) → all_known known g.inputs ≡ true → gate_value tables states a g ≡ gate_value tables states b g
  same_value known a b g h u = ap (λ vs. function_value tables states g.function vs) (same_levels known a b g.inputs h u)

  have_all : (nets : List Tern) (os : List ℕ) (v : Tern) → ((k : ℕ) → is_among os k ≡ true → value_at nets k ≡ v) → AllHave nets os v
  have_all nets [] v h = tt
  have_all nets (o ∷ os) v h = (
    h o (ap (λ b. b || is_among os o) (eq_self o)),
    have_all nets os v (λ k a. h k (among_later (o == k) (is_among os k) a)),
  )
    where
      among_later : (a b : Bool) → b ≡ true → (a || b) ≡ true
      among_later true b h = refl
      among_later false b h = h

  have_each : (nets : List Tern) (os : List ℕ) (v : Tern) → AllHave nets os v → (k : ℕ) → is_among os k ≡ true → value_at nets k ≡ v
  have_each nets [] v h k a = absurd (cc)
  have_each nets (o ∷ os) v h k a =
      elim (o == k) as (λ w. (o == k) ≡ w → value_at nets k ≡ v) [
        | true ↦ λ e. let s : o ≡ k = same_of o k e in subst (λ n. value_at nets n ≡ v) s h.0
        | false ↦ λ e. have_each nets os v h.1 k (sym (ap (λ w. w || is_among os k) e) ∙ a)
      ] refl

  among_within : (known : List Bool) (os : List ℕ) (k : ℕ) → all_unknown known os ≡ true → is_among os k ≡ true → k < length known
  among_within known [] k u a = absurd (cc)
  among_within known (o ∷ os) k u a =
      let i = both (not (is_known known o)) (all_unknown known os) u in
      elim (o == k) as (λ w. (o == k) ≡ w → k < length known) [
        | true ↦ λ e. let s : o ≡ k = same_of o k e in subst (λ n. n < length known) s (unknown_within known o (not_known (is_known known o) i.0))
        | false ↦ λ e. among_within known os k i.1 (sym (ap (λ w. w || is_among os k) e) ∙ a)
      ] refl

  -- the pass settles each gate
  pub after_settled : (known : List Bool) (gates : List Gate) (nets : List Tern) → is_ordered known gates ≡ true → length known ≡ length nets → AreGatesSettled tables states (values_after tables states gates nets) gates
  after_settled known [] nets o long = tt
  after_settled known (g ∷ gates) nets o long =
      let i = both (all_known known g.inputs) (all_unknown known g.outputs && is_ordered (marked g.outputs true known) gates) o in
      let j = both (all_unknown known g.outputs) (is_ordered (marked g.outputs true known) gates) i.1 in
      let v : Tern = gate_value tables states nets g in
      let next : List Tern = written g.outputs v nets in
      let last : List Tern = values_after tables states gates next in
      let kept : gate_value tables states last g ≡ v = same_value known last nets g (λ k h. after_other (g ∷ gates) nets k (known_apart known (g ∷ gates) k o h)) i.0 in
      let more : length (marked g.outputs true known) ≡ length next = marked_long g.outputs true known ∙ long ∙ sym (written_long g.outputs v nets) in (
        have_all last g.outputs (gate_value tables states last g) (λ k a.
            let lt : k < length known = among_within known g.outputs k j.0 a in
            after_other gates next k (known_apart (marked g.outputs true known) gates k j.1 (among_known g.outputs known k a))
            ∙ written_same g.outputs v nets k a (omega arith) ∙ sym kept),
        after_settled (marked g.outputs true known) gates next j.1 more,
      )

  -- Where each gate is settled, and each net that none drives has its value, the assignment is what the pass gives.
  pub settled_after : (known : List Bool) (gates : List Gate) (nets all : List Tern) → is_ordered known gates ≡ true → length known ≡ length nets → AreGatesSettled tables states all gates → ((k : ℕ) → is_driven gates k ≡ false → value_at all k ≡ value_at nets k) → (k : ℕ) → value_at all k ≡ value_at (values_after tables states gates nets) k
  settled_after known [] nets all o long s h = λ k. h k refl
  settled_after known (g ∷ gates) nets all o long s h =
      let i = both (all_known known g.inputs) (all_unknown known g.outputs && is_ordered (marked g.outputs true known) gates) o in
      let j = both (all_unknown known g.outputs) (is_ordered (marked g.outputs true known) gates) i.1 in
      let v : Tern = gate_value tables states nets g in
      let next : List Tern = written g.outputs v nets in
      let same : gate_value tables states all g ≡ v = same_value known all nets g (λ k u. h k (known_apart known (g ∷ gates) k o u)) i.0 in
      let more : length (marked g.outputs true known) ≡ length next = marked_long g.outputs true known ∙ long ∙ sym (written_long g.outputs v nets) in
      settled_after (marked g.outputs true known) gates next all j.1 more s.1 (λ k free.
      elim (is_among g.outputs k) as (λ w. is_among g.outputs k ≡ w → value_at all k ≡ value_at next k) [
        | true ↦ λ e.
            let lt : k < length known = among_within known g.outputs k j.0 e in
            have_each all g.outputs (gate_value tables states all g) s.0 k e ∙ same ∙ sym (written_same g.outputs v nets k e (omega arith))
        | false ↦ λ e. h k (none (is_among g.outputs k) (is_driven gates k) e free) ∙ sym (written_other g.outputs v nets k e)
      ] refl)

  pub pass_settles : (known : List Bool) (gates : List Gate) (first : List Tern) → is_ordered known gates ≡ true → length known ≡ length first → AreSettled tables gates first states (values_after tables states gates first)
  pass_settles known gates first o long = record {
    count = after_long gates first;
    free = λ k h. after_other gates first k h;
    driven = after_settled known gates first o long;
  }

  pub settled_one : (known : List Bool) (gates : List Gate) (first nets : List Tern) → is_ordered known gates ≡ true → length known ≡ length first → AreSettled tables gates first states nets → nets ≡ values_after tables states gates first
  settled_one known gates first nets o long s =
      ext_get_or Unknown nets (values_after tables states gates first) (s.count ∙ sym (after_long gates first)) (λ k lt. settled_after known gates first nets o long s.driven s.free k)
