-- The steps keep the rule.
use Rattle.std.proofs.Common.{◌≡◌, ℕ, zero, suc, ◌+◌, ◌-◌, ◌%◌, ◌^◌, ◌<◌, ◌≤◌, ◌≢◌, ◌⊎◌, List, [], ◌∷◌, ◌++◌, length, set, slice_index, slice_set, nat_eq, nat_le, refl, sym, ap, subst, ◌∙◌, inl, inr, ⊎_elim, arith, lt_of_not-le, get_or, get_or-set_same}
use Rattle.std.proofs.Math.ListN.{length-set}
use Rattle.std.proofs.Math.Nat.{mod-eq_of_lt}
use Rattle.std.proofs.lemmas.Bool.Decides.{nat_tests}
use Rattle.std.specs.List.{sum_by}
use Rattle.std.proofs.lemmas.List.Sums.{sum_by_push}
use mathlib.Core.Option.{some, some-injective, some-ne-none}
use native.Mathlib.Decide.{dec_le}
use lib.ListN.{get_elem?}
use Rattle.atomic_table.specs.Table.{State, Me, Act, keeps, Allows, Splits, Joins, opening}
use Rattle.atomic_table.proofs.Lists.{at_set, at_snoc, set_else, set_here}
use Rattle.claim_table.specs.Counts.{unit_of, times, beyond, once_below}
use Rattle.claim_table.specs.declared.rule.ClaimView.{ClaimView}
use Rattle.claim_table.specs.declared.rule.BatchSize.{BatchSize}
use Rattle.claim_table.specs.Rule.{IsWithin, Keeps, view_of, after_claim, kept_part, new_part, both_parts}
use Rattle.claim_table.proofs.Totals.{total_set, total_at, total_added, total_le, total_none, in_span, span_more, span_none, span_beyond, times_push, beyond_push, times_append, beyond_append, once_more, once_at, once_none, beyond_none}

-- the numbers from n up to n + k stand in the lists once each
span_total : (n k word : ℕ) (views : List ClaimView) → ((x : ℕ) → sum_by (λ v. times x v.numbers) views ≡ once_below x word) → n + k ≤ word → sum_by (λ v. in_span n k v.numbers) views ≡ k
span_total n zero word views each le = total_none (λ (v : ClaimView). in_span n 0 v.numbers) views (λ i v e. span_none n v.numbers)
span_total n (suc k) word views each le =
    let rest = span_total n k word views each (omega arith) in
    let more = total_added (λ (v : ClaimView). in_span n k v.numbers) (λ (v : ClaimView). times (n + k) v.numbers) (λ (v : ClaimView). in_span n (suc k) v.numbers) (λ v. span_more n k v.numbers) views in
    let here = each (n + k) in
    let one = once_at (n + k) word (omega arith) in
    omega arith

-- the word goes past the cells by no more than the workers
pub word_bound : (b : BatchSize) (s : State ℕ ClaimView) → Keeps b s → slice_index s.words 0 ≤ b.cells + b.workers
word_bound b s (one, each, all, within) =
    let w = slice_index s.words 0 in
    ⊎_elim (λ (small : w ≤ b.cells). omega arith)
    (λ (large : b.cells < w).
    let span = span_total b.cells (w - b.cells) w s.views each (omega arith) in
    let most = total_le (λ (v : ClaimView). in_span b.cells (w - b.cells) v.numbers) (λ (v : ClaimView). v.budget) s.views (λ i v e. let q = within i v e in let p = span_beyond b.cells (w - b.cells) v.numbers in let r = q.0 in omega arith) in
    omega arith)
    (below_or w b.cells)
  where
    below_or : (m n : ℕ) → (m ≤ n) ⊎ (n < m)
    below_or m n = elim (dec_le m n) [ yes p ↦ inl p | no p ↦ inr (lt_of_not-le p) ]

word_set : (words : List ℕ) (m : ℕ) → length words ≡ 1 → slice_index (slice_set words 0 m) 0 ≡ m
word_set words m one = get_or-set_same words 0 m 0 (omega arith)

-- the old word joins the list, and no number of the list was as great
pub claims : (b : BatchSize) (slots id : ℕ) (me : Me ℕ ClaimView) → b.cells ≤ 64 → b.workers ≤ 16 → beyond b.cells me.0.numbers < me.0.budget
    → Allows (Keeps b) slots id me 0 (λ n. (n + 1) % 2 ^ 64) (λ n after. (after ≡ (after_claim me.0 n, me.1)) × (beyond n me.0.numbers ≡ 0))
claims b slots id me c w room s (one, each, all, within) len at low =
    let v = me.0 in
    let word = slice_index s.words 0 in
    let after = after_claim v word in
    let bound = word_bound b s (one, each, all, within) in
    let next : (word + 1) % 2 ^ 64 ≡ word + 1 = mod-eq_of_lt (omega arith) in
    let stored = word_set s.words ((word + 1) % 2 ^ 64) one in (
      after,
      keeps,
      tt,
      (
        (let l = length-set s.words 0 ((word + 1) % 2 ^ 64) in omega arith),
        (λ x.
            let t = total_set (λ (u : ClaimView). times x u.numbers) s.views id v after at in
            let p = times_push x word v.numbers in
            let e = each x in
            let o = once_more x word in
            let k : once_below x (slice_index (slice_set s.words 0 ((word + 1) % 2 ^ 64)) 0) ≡ once_below x (word + 1) = ap (λ (n : ℕ). once_below x n) (stored ∙ next) in
            omega arith),
        (let t = total_set (λ (u : ClaimView). u.budget) s.views id v after at in omega arith),
        (λ i u e. ⊎_elim
            (λ (t : (i ≡ id) × (after ≡ u)). subst (λ (z : ClaimView). IsWithin b.cells z) t.1 (claimed_within b.cells v word room))
            (λ (t : (i ≢ id) × (get_elem? s.views i ≡ some u)). within i u t.1)
            (at_set s.views id i after u e)),
      ),
      (refl, beyond_none word v.numbers (λ y le. let m = total_at (λ (u : ClaimView). times y u.numbers) s.views id v at in let e = each y in let z = once_none y word le in omega arith)),
    )
  where
    push_beyond : (c n : ℕ) (numbers : List ℕ) → beyond c (numbers ++ n ∷ []) ≤ beyond c numbers + 1
    push_beyond c n numbers = let p = beyond_push c n numbers in let q = unit_small c n in omega arith
      where
        unit_small : (c n : ℕ) → unit_of (nat_le c n) ≤ 1
        unit_small c n = grind (arith, nat_tests)

    claimed_within : (cells : ℕ) (v : ClaimView) (n : ℕ) → beyond cells v.numbers < v.budget → IsWithin cells (after_claim v n)
    claimed_within cells v n room = ((let p = push_beyond cells n v.numbers in omega arith), (λ none. absurd (omega arith)))

pub splits : (b : BatchSize) (id : ℕ) (v : ClaimView) (budget : ℕ) → beyond b.cells v.numbers + budget ≤ v.budget → (v.budget ≤ budget → v.numbers ≡ [])
    → Splits (Keeps b) id v (kept_part budget v) (new_part budget)
splits b id v budget room empty s (one, each, all, within) at =
    let left = kept_part budget v in
    let right = new_part budget in
    let views = set s.views id left in (
      one,
      (λ x.
          let t = total_set (λ (u : ClaimView). times x u.numbers) s.views id v left at in
          let p = sum_by_push (λ (u : ClaimView). times x u.numbers) views right in
          let e = each x in
          omega arith),
      (let t = total_set (λ (u : ClaimView). u.budget) s.views id v left at in
          let p = sum_by_push (λ (u : ClaimView). u.budget) views right in
          omega arith),
      (λ i u e. ⊎_elim
          (λ was. ⊎_elim
          (λ (t : (i ≡ id) × (left ≡ u)). subst (λ (z : ClaimView). IsWithin b.cells z) t.1 ((omega arith), (λ none. empty (omega arith))))
          (λ (t : (i ≢ id) × (get_elem? s.views i ≡ some u)). within i u t.1)
          (at_set s.views id i left u was))
          (λ (same : right ≡ u). subst (λ (z : ClaimView). IsWithin b.cells z) same ((omega arith), (λ none. refl)))
          (at_snoc views right u i e)),
    )

pub joins : (b : BatchSize) (id : ℕ) (v : ClaimView) (other : ℕ) (w : ClaimView) → Joins (Keeps b) id v other w (both_parts v w) (view_of [] 0)
joins b id v other w s (one, each, all, within) at differ at_other =
    let both = both_parts v w in
    let spent = view_of [] 0 in
    let views = set s.views id both in
    let was = sym (set_else s.views id other both differ) ∙ at_other in
    let vs = within id v at in
    let ws = within other w was in (
      one,
      (λ x.
          let t = total_set (λ (u : ClaimView). times x u.numbers) s.views id v both at in
          let q = total_set (λ (u : ClaimView). times x u.numbers) views other w spent at_other in
          let p = times_append x v.numbers w.numbers in
          let e = each x in
          omega arith),
      (let t = total_set (λ (u : ClaimView). u.budget) s.views id v both at in
          let q = total_set (λ (u : ClaimView). u.budget) views other w spent at_other in
          omega arith),
      (λ i u e. ⊎_elim
          (λ (t : (i ≡ other) × (spent ≡ u)). subst (λ (z : ClaimView). IsWithin b.cells z) t.1 ((omega arith), (λ none. refl)))
          (λ (t : (i ≢ other) × (get_elem? views i ≡ some u)). ⊎_elim
          (λ (r : (i ≡ id) × (both ≡ u)). subst (λ (z : ClaimView). IsWithin b.cells z) r.1 (
            (let p = beyond_append b.cells v.numbers w.numbers in let vl = vs.0 in let wl = ws.0 in omega arith),
            (λ none. let a = vs.1 (omega arith) in let c = ws.1 (omega arith) in (ap (λ (l : List ℕ). l ++ w.numbers) a ∙ c)),
          ))
          (λ (r : (i ≢ id) × (get_elem? s.views i ≡ some u)). within i u r.1)
          (at_set s.views id i both u t.1))
          (at_set views other i spent u e)),
    )

-- a seat with the whole budget and a number not below the cells holds each number below the cells once
pub closes : (b : BatchSize) (s : State ℕ ClaimView) (id : ℕ) (v : ClaimView) → Keeps b s → get_elem? s.views id ≡ some v → v.budget ≡ b.workers → 0 < beyond b.cells v.numbers
    → (x : ℕ) → x < b.cells → times x v.numbers ≡ 1
closes b s id v (one, each, all, within) at whole some_beyond x below =
    let word = slice_index s.words 0 in
    let spent = view_of [] 0 in
    let views = set s.views id spent in
    let budgets = total_set (λ (u : ClaimView). u.budget) s.views id v spent at in
    let here = total_set (λ (u : ClaimView). times x u.numbers) s.views id v spent at in
    let others = total_none (λ (u : ClaimView). times x u.numbers) views (λ i u e. ⊎_elim
    (λ (t : (i ≡ id) × (spent ≡ u)). sym (ap (λ (z : ClaimView). times x z.numbers) t.1))
    (λ (t : (i ≢ id) × (get_elem? s.views i ≡ some u)). let r = within i u t.1 in let m = total_at (λ (z : ClaimView). z.budget) views i u e in ap (times x) (r.1 (omega arith)))
    (at_set s.views id i spent u e)) in
    let e = each x in
    let low : x < word = lt_of_not-le (λ le.
    let z = beyond_none b.cells v.numbers (λ y from. let m = total_at (λ (u : ClaimView). times y u.numbers) s.views id v at in let o = once_none y word (omega arith) in let f = each y in omega arith) in
    omega arith) in
    let o = once_at x word low in
    omega arith

-- the rule at the start
pub opens : (b : BatchSize) → Keeps b (opening (0 ∷ []) [] (view_of [] b.workers))
opens b = (
  refl,
  (λ x. sym (once_none x 0 (omega arith))),
  omega arith,
  (λ i v e. ⊎_elim (λ none. absurd (some-ne-none v (sym none))) (λ (same : view_of [] b.workers ≡ v). subst (λ (z : ClaimView). IsWithin b.cells z) same ((omega arith), (λ none. refl))) (at_snoc [] (view_of [] b.workers) v i e)),
)
