-- Pieces of a path, and visits, as the search changes them.
use Rattle.std.proofs.Common.{◌≡◌, ℕ, suc, zero, ◌+◌, ◌<◌, ◌≤◌, ◌⊎◌, inl, inr, Bool, true, false, List, [], ◌∷◌, ◌++◌, length, refl, sym, ◌∙◌, ap, subst, arith}
use Rattle.std.specs.Prelude.{◌==◌, ◌||◌, sum_by, slice_set, slice_index_or}
use Rattle.std.proofs.lemmas.List.{get_or-set_other}
use Rattle.std.proofs.lemmas.List.Sums.{sum_by-cons}
use Rattle.std.proofs.Math.ListN.{length-set}
use Rattle.gate_settle.specs.declared.reach.Visit.{Visit}
use Rattle.gate_settle.specs.declared.reach.Visit.TheVariants.{New, OnPath, Done}
use Rattle.gate_settle.specs.Gates.{is_among}
use Rattle.gate_settle.specs.Search.{visit_at, is_new, is_done, done_with, Piece, some_in, IsUnder, one_if_new, weight}
use Rattle.gate_settle.proofs.Settling.{neither, eq_self, same_of, apart_of}
use Rattle.gate_settle.proofs.Loops.{either, first_true, second_true}

-- ---- Booleans

pub by_first : (d a l s : Bool) → d ≡ true → (d || (a || (l || s))) ≡ true
by_first d a l s h = first_true d (a || (l || s)) h

pub by_second : (d a l s : Bool) → a ≡ true → (d || (a || (l || s))) ≡ true
by_second d a l s h = second_true d (a || (l || s)) (first_true a (l || s) h)

pub by_third : (d a l s : Bool) → l ≡ true → (d || (a || (l || s))) ≡ true
by_third d a l s h = second_true d (a || (l || s)) (second_true a (l || s) (first_true l s h))

pub by_fourth : (d a l s : Bool) → s ≡ true → (d || (a || (l || s))) ≡ true
by_fourth d a l s h = second_true d (a || (l || s)) (second_true a (l || s) (second_true l s h))

pub four : (d a l s : Bool) → (d || (a || (l || s))) ≡ true → (d ≡ true) ⊎ ((a ≡ true) ⊎ ((l ≡ true) ⊎ (s ≡ true)))
four true a l s h = inl refl
four false true l s h = inr (inl refl)
four false false true s h = inr (inr (inl refl))
four false false false s h = inr (inr (inr h))

pub or_none : (a : Bool) → (a || false) ≡ true → a ≡ true
or_none true h = refl
or_none false h = absurd (cc)

-- ---- members

pub among_left : (a b : List ℕ) (k : ℕ) → is_among a k ≡ true → is_among (a ++ b) k ≡ true
among_left [] b k h = absurd (cc)
among_left (x ∷ a) b k h = elim (either (x == k) (is_among a k) h) [
  | inl e ↦ first_true (x == k) (is_among (a ++ b) k) e
  | inr i ↦ second_true (x == k) (is_among (a ++ b) k) (among_left a b k i)
]

pub among_right : (a b : List ℕ) (k : ℕ) → is_among b k ≡ true → is_among (a ++ b) k ≡ true
among_right [] b k h = h
among_right (x ∷ a) b k h = second_true (x == k) (is_among (a ++ b) k) (among_right a b k h)

pub among_cases : (a b : List ℕ) (k : ℕ) → is_among (a ++ b) k ≡ true → (is_among a k ≡ true) ⊎ (is_among b k ≡ true)
among_cases [] b k h = inr h
among_cases (x ∷ a) b k h = elim (either (x == k) (is_among (a ++ b) k) h) [
  | inl e ↦ inl (first_true (x == k) (is_among a k) e)
  | inr i ↦ elim (among_cases a b k i) [
    | inl l ↦ inl (second_true (x == k) (is_among a k) l)
    | inr r ↦ inr r
  ]
]

-- the last of a list
pub last_in : (rest : List ℕ) (w : ℕ) → is_among (rest ++ w ∷ []) w ≡ true
last_in rest w = among_right rest (w ∷ []) w (first_true (w == w) false (eq_self w))

pub one_in : (w k : ℕ) → is_among (w ∷ []) k ≡ true → w ≡ k
one_in w k h = same_of w k (or_none (w == k) h)

pub some_left : (a b : List Piece) (k : ℕ) → some_in a k ≡ true → some_in (a ++ b) k ≡ true
some_left [] b k h = absurd (cc)
some_left (p ∷ a) b k h = elim (either (is_among p.nets k) (some_in a k) h) [
  | inl i ↦ first_true (is_among p.nets k) (some_in (a ++ b) k) i
  | inr i ↦ second_true (is_among p.nets k) (some_in (a ++ b) k) (some_left a b k i)
]

pub some_right : (a b : List Piece) (k : ℕ) → some_in b k ≡ true → some_in (a ++ b) k ≡ true
some_right [] b k h = h
some_right (p ∷ a) b k h = second_true (is_among p.nets k) (some_in (a ++ b) k) (some_right a b k h)

pub some_cases : (a b : List Piece) (k : ℕ) → some_in (a ++ b) k ≡ true → (some_in a k ≡ true) ⊎ (some_in b k ≡ true)
some_cases [] b k h = inr h
some_cases (p ∷ a) b k h = elim (either (is_among p.nets k) (some_in (a ++ b) k) h) [
  | inl i ↦ inl (first_true (is_among p.nets k) (some_in a k) i)
  | inr i ↦ elim (some_cases a b k i) [
    | inl l ↦ inl (second_true (is_among p.nets k) (some_in a k) l)
    | inr r ↦ inr r
  ]
]

pub some_swap : (qs xs ys : List Piece) → ((k : ℕ) → some_in xs k ≡ true → some_in ys k ≡ true) → (k : ℕ) → some_in (qs ++ xs) k ≡ true → some_in (qs ++ ys) k ≡ true
some_swap qs xs ys f k h = elim (some_cases qs xs k h) [
  | inl l ↦ some_left qs ys k l
  | inr r ↦ some_right qs ys k (f k r)
]

pub under_swap : (n m m' : ℕ) (qs xs ys : List Piece) → (IsUnder n xs m → IsUnder n ys m') → IsUnder n (qs ++ xs) m → IsUnder n (qs ++ ys) m'
under_swap n m m' [] xs ys f h = f h
under_swap n m m' (q ∷ qs) xs ys f h = (h.0, under_swap n m m' qs xs ys f h.1)

pub under_last : (n m : ℕ) (qs : List Piece) (t : Piece) → IsUnder n (qs ++ t ∷ []) m → n < t.first
under_last n m [] t h = h.0
under_last n m (q ∷ qs) t h = under_last n m qs t h.1

-- ---- visits

pub visit_within : (vs : List Visit) (k n : ℕ) → visit_at vs k ≡ OnPath n → k < length vs
visit_within [] k n h = absurd (cc)
visit_within (v ∷ vs) zero n h = omega arith
visit_within (v ∷ vs) (suc k) n h = let i : k < length vs = visit_within vs k n h in omega arith

pub new_within : (vs : List Visit) (k : ℕ) → is_new (visit_at vs k) ≡ true → k < length vs
new_within [] k h = absurd (cc)
new_within (v ∷ vs) zero h = omega arith
new_within (v ∷ vs) (suc k) h = let i : k < length vs = new_within vs k h in omega arith

pub set_done : (vs : List Visit) (o k : ℕ) (b : Bool) → is_done (visit_at vs k) ≡ true → is_done (visit_at (slice_set vs o (Done b)) k) ≡ true
set_done [] o k b h = h
set_done (v ∷ vs) zero zero b h = refl
set_done (v ∷ vs) zero (suc k) b h = h
set_done (v ∷ vs) (suc o) zero b h = h
set_done (v ∷ vs) (suc o) (suc k) b h = set_done vs o k b h

pub keeps_done : (ks : List ℕ) (b : Bool) (vs : List Visit) (k : ℕ) → is_done (visit_at vs k) ≡ true → is_done (visit_at (done_with ks b vs) k) ≡ true
keeps_done [] b vs k h = h
keeps_done (o ∷ ks) b vs k h = keeps_done ks b (slice_set vs o (Done b)) k (set_done vs o k b h)

pub other_visit : (ks : List ℕ) (b : Bool) (vs : List Visit) (k : ℕ) → is_among ks k ≡ false → visit_at (done_with ks b vs) k ≡ visit_at vs k
other_visit [] b vs k h = refl
other_visit (o ∷ ks) b vs k h =
    let i = neither (o == k) (is_among ks k) h in
    other_visit ks b (slice_set vs o (Done b)) k i.1 ∙ get_or-set_other vs o k (Done b) (Done false) (apart_of o k i.0)

pub set_told : (vs : List Visit) (o k : ℕ) (b : Bool) → visit_at vs k ≡ Done b → visit_at (slice_set vs o (Done b)) k ≡ Done b
set_told [] o k b h = h
set_told (v ∷ vs) zero zero b h = refl
set_told (v ∷ vs) zero (suc k) b h = h
set_told (v ∷ vs) (suc o) zero b h = h
set_told (v ∷ vs) (suc o) (suc k) b h = set_told vs o k b h

pub keeps_told : (ks : List ℕ) (b : Bool) (vs : List Visit) (k : ℕ) → visit_at vs k ≡ Done b → visit_at (done_with ks b vs) k ≡ Done b
keeps_told [] b vs k h = h
keeps_told (o ∷ ks) b vs k h = keeps_told ks b (slice_set vs o (Done b)) k (set_told vs o k b h)

pub set_here : (vs : List Visit) (k : ℕ) (b : Bool) → k < length vs → visit_at (slice_set vs k (Done b)) k ≡ Done b
set_here [] k b lt = absurd (omega arith)
set_here (v ∷ vs) zero b lt = refl
set_here (v ∷ vs) (suc k) b lt = set_here vs k b (omega arith)

pub told_visit : (ks : List ℕ) (b : Bool) (vs : List Visit) (k : ℕ) → k < length vs → is_among ks k ≡ true → visit_at (done_with ks b vs) k ≡ Done b
told_visit [] b vs k lt h = absurd (cc)
told_visit (o ∷ ks) b vs k lt h =
    let long : length (slice_set vs o (Done b)) ≡ length vs = length-set vs o (Done b) in
    elim (either (o == k) (is_among ks k) h) [
      | inl e ↦ keeps_told ks b (slice_set vs o (Done b)) k (subst (λ n. visit_at (slice_set vs n (Done b)) k ≡ Done b) (sym (same_of o k e)) (set_here vs k b lt))
      | inr i ↦ told_visit ks b (slice_set vs o (Done b)) k (omega arith) i
    ]

pub done_long : (ks : List ℕ) (b : Bool) (vs : List Visit) → length (done_with ks b vs) ≡ length vs
done_long [] b vs = refl
done_long (o ∷ ks) b vs = done_long ks b (slice_set vs o (Done b)) ∙ length-set vs o (Done b)

pub set_old : (vs : List Visit) (o k : ℕ) (b : Bool) → is_new (visit_at vs k) ≡ false → is_new (visit_at (slice_set vs o (Done b)) k) ≡ false
set_old [] o k b h = h
set_old (v ∷ vs) zero zero b h = refl
set_old (v ∷ vs) zero (suc k) b h = h
set_old (v ∷ vs) (suc o) zero b h = h
set_old (v ∷ vs) (suc o) (suc k) b h = set_old vs o k b h

pub done_old : (ks : List ℕ) (b : Bool) (vs : List Visit) (k : ℕ) → is_new (visit_at vs k) ≡ false → is_new (visit_at (done_with ks b vs) k) ≡ false
done_old [] b vs k h = h
done_old (o ∷ ks) b vs k h = done_old ks b (slice_set vs o (Done b)) k (set_old vs o k b h)

pub met_old : (vs : List Visit) (w n k : ℕ) → is_new (visit_at vs k) ≡ false → is_new (visit_at (slice_set vs w (OnPath n)) k) ≡ false
met_old [] w n k h = h
met_old (v ∷ vs) zero n zero h = refl
met_old (v ∷ vs) zero n (suc k) h = h
met_old (v ∷ vs) (suc w) n zero h = h
met_old (v ∷ vs) (suc w) n (suc k) h = met_old vs w n k h

pub met_here : (vs : List Visit) (w n : ℕ) → w < length vs → visit_at (slice_set vs w (OnPath n)) w ≡ OnPath n
met_here [] w n lt = absurd (omega arith)
met_here (v ∷ vs) zero n lt = refl
met_here (v ∷ vs) (suc w) n lt = met_here vs w n (omega arith)

-- ---- new nets

pub set_less_new : (vs : List Visit) (o : ℕ) (b : Bool) → sum_by one_if_new (slice_set vs o (Done b)) ≤ sum_by one_if_new vs
set_less_new [] o b = omega arith
set_less_new (v ∷ vs) zero b = let x = sum_by-cons one_if_new v vs in let y = sum_by-cons one_if_new (Done b) vs in let z : one_if_new (Done b) ≡ 0 = refl in omega (arith, x, y, z)
set_less_new (v ∷ vs) (suc o) b = let x = sum_by-cons one_if_new v vs in let y = sum_by-cons one_if_new v (slice_set vs o (Done b)) in let i = set_less_new vs o b in omega (arith, x, y, i)

pub less_new : (ks : List ℕ) (b : Bool) (vs : List Visit) → sum_by one_if_new (done_with ks b vs) ≤ sum_by one_if_new vs
less_new [] b vs = omega arith
less_new (o ∷ ks) b vs = let i = less_new ks b (slice_set vs o (Done b)) in let s = set_less_new vs o b in omega (arith, i, s)

pub new_one : (v : Visit) → is_new v ≡ true → one_if_new v ≡ 1
new_one New h = refl
new_one (OnPath n) h = absurd (cc)
new_one (Done b) h = absurd (cc)

pub met_new : (vs : List Visit) (w n : ℕ) → is_new (visit_at vs w) ≡ true → sum_by one_if_new (slice_set vs w (OnPath n)) + 1 ≡ sum_by one_if_new vs
met_new [] w n h = absurd (cc)
met_new (v ∷ vs) zero n h =
    let x = sum_by-cons one_if_new v vs in
    let y = sum_by-cons one_if_new (OnPath n) vs in
    let z : one_if_new (OnPath n) ≡ 0 = refl in
    let o : one_if_new v ≡ 1 = new_one v h in omega (arith, x, y, z, o)
met_new (v ∷ vs) (suc w) n h = let x = sum_by-cons one_if_new v vs in let y = sum_by-cons one_if_new v (slice_set vs w (OnPath n)) in let i = met_new vs w n h in omega (arith, x, y, i)

-- ---- what is left to do

pub set_weight : (vs : List Visit) (rows : List (List ℕ)) (o : ℕ) (b : Bool) → weight (slice_set vs o (Done b)) rows ≤ weight vs rows
set_weight [] rows o b = omega arith
set_weight (v ∷ vs) [] zero b = omega arith
set_weight (v ∷ vs) [] (suc o) b = omega arith
set_weight (New ∷ vs) (r ∷ rows) zero b = omega arith
set_weight (OnPath n ∷ vs) (r ∷ rows) zero b = omega arith
set_weight (Done c ∷ vs) (r ∷ rows) zero b = omega arith
set_weight (New ∷ vs) (r ∷ rows) (suc o) b = let i = set_weight vs rows o b in omega (arith, i)
set_weight (OnPath n ∷ vs) (r ∷ rows) (suc o) b = set_weight vs rows o b
set_weight (Done c ∷ vs) (r ∷ rows) (suc o) b = set_weight vs rows o b

pub done_weight : (ks : List ℕ) (b : Bool) (vs : List Visit) (rows : List (List ℕ)) → weight (done_with ks b vs) rows ≤ weight vs rows
done_weight [] b vs rows = omega arith
done_weight (o ∷ ks) b vs rows = let i = done_weight ks b (slice_set vs o (Done b)) rows in let s = set_weight vs rows o b in omega (arith, i, s)

pub met_weight : (vs : List Visit) (rows : List (List ℕ)) (w n : ℕ) → length vs ≡ length rows → is_new (visit_at vs w) ≡ true → weight (slice_set vs w (OnPath n)) rows + (1 + length (slice_index_or rows w [])) ≡ weight vs rows
met_weight [] rows w n l h = absurd (cc)
met_weight (v ∷ vs) [] w n l h = absurd (omega arith)
met_weight (New ∷ vs) (r ∷ rows) zero n l h = omega arith
met_weight (OnPath m ∷ vs) (r ∷ rows) zero n l h = absurd (cc)
met_weight (Done c ∷ vs) (r ∷ rows) zero n l h = absurd (cc)
met_weight (New ∷ vs) (r ∷ rows) (suc w) n l h = let i = met_weight vs rows w n (omega arith) h in omega (arith, i)
met_weight (OnPath m ∷ vs) (r ∷ rows) (suc w) n l h = met_weight vs rows w n (omega arith) h
met_weight (Done c ∷ vs) (r ∷ rows) (suc w) n l h = met_weight vs rows w n (omega arith) h

pub or_false : (a : Bool) → (a || false) ≡ a
or_false true = refl
or_false false = refl

pub or_swap : (a b : Bool) → (a || b) ≡ (b || a)
or_swap true true = refl
or_swap true false = refl
or_swap false true = refl
or_swap false false = refl

pub or_over : (a b c : Bool) → (a || (b || c)) ≡ ((a || b) || c)
or_over true b c = refl
or_over false b c = refl

pub among_append : (a b : List ℕ) (k : ℕ) → is_among (a ++ b) k ≡ (is_among a k || is_among b k)
among_append [] b k = refl
among_append (x ∷ a) b k = ap (λ v. x == k || v) (among_append a b k) ∙ or_over (x == k) (is_among a k) (is_among b k)
