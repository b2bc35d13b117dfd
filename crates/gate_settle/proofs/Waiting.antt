-- Gates that wait: rows one gate longer, rows emptied, and marks that have grown.
use Rattle.std.proofs.Common.{◌≡◌, ℕ, suc, zero, ◌+◌, ◌*◌, ◌-◌, ◌<◌, ◌≤◌, Bool, true, false, List, [], ◌∷◌, ◌++◌, length, get_or, take, inl, inr, refl, sym, ◌∙◌, ap, subst, arith}
use Rattle.std.specs.Prelude.{◌==◌, not, sum_by, slice_set, slice_index_or, replicate}
use Rattle.std.proofs.lemmas.List.{get_or-set_other, take_more, length-replicate}
use Rattle.std.proofs.lemmas.List.Sums.{sum_by-cons, sum_by-append, sum_by_push, sum_by-set}
use Rattle.gate_settle.specs.declared.gate.Operand.{Operand}
use Rattle.gate_settle.specs.declared.gate.Operand.TheVariants.{Net, Constant}
use Rattle.gate_settle.specs.declared.gate.Gate.{Gate}
use Rattle.gate_settle.specs.declared.order.Waiter.{Waiter}
use Rattle.gate_settle.specs.declared.order.Missing.{Missing}
use Rattle.gate_settle.specs.Gates.{is_among, is_driven}
use Rattle.gate_settle.specs.Order.{is_known, is_operand_known, all_known, all_unknown, is_input, is_ready, none_ready, marked, is_ordered, known_after, known_at_first, times, drivers}
use Rattle.gate_settle.specs.Reach.{AreWithin}
use Rattle.gate_settle.specs.Waiting.{IsMissing, AllScanned, AllWait, gates_in, gates_within, emptied, woken}
use Rattle.std.proofs.Math.ListN.{length-set}
use Rattle.gate_settle.proofs.Settling.{both, neither, apart_of, same_of, eq_self, marked_keeps, at_place}
use Rattle.gate_settle.proofs.Sorting.{each, not_so, known_push, ordered_push}
use Rattle.gate_settle.proofs.Loops.{either, first_true, second_true, input_known, one_if, driven_is_some, sum_some, driven_count, among_times, after_apart, after_off, replicate_long, marked_other, all_are_unknown, after_length, first_long}

-- ---- inputs

pub known_push_input : (known : List Bool) (xs : List Operand) (x : Operand) → all_known known xs ≡ true → is_operand_known known x ≡ true → all_known known (xs ++ x ∷ []) ≡ true
known_push_input known [] x h k = each (is_operand_known known x) true k refl
known_push_input known (y ∷ xs) x h k =
    let i = both (is_operand_known known y) (all_known known xs) h in
    each (is_operand_known known y) (all_known known (xs ++ x ∷ [])) i.0 (known_push_input known xs x i.1 k)

pub take_known : (known : List Bool) (xs : List Operand) (k : ℕ) (d : Operand) → k < length xs → all_known known (take k xs) ≡ true → is_operand_known known (get_or xs k d) ≡ true → all_known known (take (k + 1) xs) ≡ true
take_known known xs k d lt h i = subst (λ ys. all_known known ys ≡ true) (sym (take_more xs k d lt)) (known_push_input known (take k xs) (get_or xs k d) h i)

pub input_at : (xs : List Operand) (k n : ℕ) (d : Operand) → k < length xs → get_or xs k d ≡ Net n → is_input xs n ≡ true
input_at [] k n d lt e = absurd (omega arith)
input_at (x ∷ xs) zero n d lt e = subst (λ y. is_input (y ∷ xs) n ≡ true) (sym e) (first_true (n == n) (is_input xs n) (eq_self n))
input_at (Net m ∷ xs) (suc k) n d lt e = second_true (m == n) (is_input xs n) (input_at xs k n d (omega arith) e)
input_at (Constant v ∷ xs) (suc k) n d lt e = input_at xs k n d (omega arith) e

-- ---- rows

empty_row : (n k : ℕ) → slice_index_or (replicate {A = List Waiter} n []) k [] ≡ []
empty_row zero k = refl
empty_row (suc n) zero = refl
empty_row (suc n) (suc k) = empty_row n k

pub no_row : (rows : List (List Waiter)) (n k : ℕ) → rows ≡ replicate n [] → slice_index_or rows k [] ≡ []
no_row rows n k e = subst (λ rs. slice_index_or rs k [] ≡ []) (sym e) (empty_row n k)

pub no_gates : (f : Gate → ℕ) (n : ℕ) → gates_within f (replicate n []) ≡ 0
no_gates f zero = refl
no_gates f (suc n) = let c = sum_by-cons (gates_in f) [] (replicate n []) in let i = no_gates f n in let z : gates_in f [] ≡ 0 = refl in omega (arith, c, i, z)

set_same_row : (rows : List (List Waiter)) (o : ℕ) → slice_index_or (slice_set rows o []) o [] ≡ []
set_same_row [] o = refl
set_same_row (r ∷ rows) zero = refl
set_same_row (r ∷ rows) (suc o) = set_same_row rows o

set_keeps_row : (rows : List (List Waiter)) (o k : ℕ) → slice_index_or rows k [] ≡ [] → slice_index_or (slice_set rows o []) k [] ≡ []
set_keeps_row [] o k h = h
set_keeps_row (r ∷ rows) zero zero h = refl
set_keeps_row (r ∷ rows) zero (suc k) h = h
set_keeps_row (r ∷ rows) (suc o) zero h = h
set_keeps_row (r ∷ rows) (suc o) (suc k) h = set_keeps_row rows o k h

emptied_keeps : (os : List ℕ) (rows : List (List Waiter)) (k : ℕ) → slice_index_or rows k [] ≡ [] → slice_index_or (emptied os rows) k [] ≡ []
emptied_keeps [] rows k h = h
emptied_keeps (o ∷ os) rows k h = emptied_keeps os (slice_set rows o []) k (set_keeps_row rows o k h)

emptied_row : (os : List ℕ) (rows : List (List Waiter)) (k : ℕ) → is_among os k ≡ true → slice_index_or (emptied os rows) k [] ≡ []
emptied_row [] rows k h = absurd (cc)
emptied_row (o ∷ os) rows k h = elim (either (o == k) (is_among os k) h) [
  | inl e ↦ emptied_keeps os (slice_set rows o []) k (subst (λ n. slice_index_or (slice_set rows o []) n [] ≡ []) (same_of o k e) (set_same_row rows o))
  | inr a ↦ emptied_row os (slice_set rows o []) k a
]

other_row : (os : List ℕ) (rows : List (List Waiter)) (k : ℕ) → is_among os k ≡ false → slice_index_or (emptied os rows) k [] ≡ slice_index_or rows k []
other_row [] rows k h = refl
other_row (o ∷ os) rows k h =
    let i = neither (o == k) (is_among os k) h in
    other_row os (slice_set rows o []) k i.1 ∙ get_or-set_other rows o k [] [] (apart_of o k i.0)

pub emptied_long : (os : List ℕ) (rows : List (List Waiter)) → length (emptied os rows) ≡ length rows
emptied_long [] rows = refl
emptied_long (o ∷ os) rows = emptied_long os (slice_set rows o []) ∙ length-set rows o []

-- ---- what waits

grown_inputs : (known more : List Bool) → ((k : ℕ) → is_known known k ≡ true → is_known more k ≡ true) → (xs : List Operand) → all_known known xs ≡ true → all_known more xs ≡ true
grown_inputs known more g [] h = refl
grown_inputs known more g (Net n ∷ xs) h =
    let i = both (is_known known n) (all_known known xs) h in
    each (is_known more n) (all_known more xs) (g n i.0) (grown_inputs known more g xs i.1)
grown_inputs known more g (Constant v ∷ xs) h = grown_inputs known more g xs h

grown_scanned : (known more : List Bool) → ((k : ℕ) → is_known known k ≡ true → is_known more k ≡ true) → (ws : List Waiter) → AllScanned known ws → AllScanned more ws
grown_scanned known more g [] h = tt
grown_scanned known more g (w ∷ ws) h = (grown_inputs known more g (take w.input w.gate.inputs) h.0, grown_scanned known more g ws h.1)

grown_wait : (known more : List Bool) (n : ℕ) → ((k : ℕ) → is_known known k ≡ true → is_known more k ≡ true) → is_known more n ≡ is_known known n → (ws : List Waiter) → AllWait known n ws → AllWait more n ws
grown_wait known more n g u [] h = tt
grown_wait known more n g u (w ∷ ws) h = (grown_inputs known more g (take w.input w.gate.inputs) h.0, h.1, u ∙ h.2, grown_wait known more n g u ws h.3)

wait_scanned : (known : List Bool) (n : ℕ) (ws : List Waiter) → AllWait known n ws → AllScanned known ws
wait_scanned known n [] h = tt
wait_scanned known n (w ∷ ws) h = (h.0, wait_scanned known n ws h.3)

pub scanned_append : (known : List Bool) (a b : List Waiter) → AllScanned known a → AllScanned known b → AllScanned known (a ++ b)
scanned_append known [] b h k = k
scanned_append known (w ∷ a) b h k = (h.0, scanned_append known a b h.1 k)

pub scanned_front : (known : List Bool) (a b : List Waiter) → AllScanned known (a ++ b) → AllScanned known a
scanned_front known [] b h = tt
scanned_front known (w ∷ a) b h = (h.0, scanned_front known a b h.1)

pub scanned_last : (known : List Bool) (a : List Waiter) (w : Waiter) → AllScanned known (a ++ w ∷ []) → all_known known (take w.input w.gate.inputs) ≡ true
scanned_last known [] w h = h.0
scanned_last known (x ∷ a) w h = scanned_last known a w h.1

wait_push : (known : List Bool) (n : ℕ) (ws : List Waiter) (w : Waiter) → AllWait known n ws → AllWait known n (w ∷ []) → AllWait known n (ws ++ w ∷ [])
wait_push known n [] w h k = k
wait_push known n (x ∷ ws) w h k = (h.0, h.1, h.2, wait_push known n ws w h.3 k)

-- one gate more waits for a net
pub waits_more : (known : List Bool) (rows : List (List Waiter)) (n : ℕ) (w : Waiter) → n < length rows → ((k : ℕ) → AllWait known k (slice_index_or rows k [])) → AllWait known n (w ∷ [])
    → (k : ℕ) → AllWait known k (slice_index_or (slice_set rows n (slice_index_or rows n [] ++ w ∷ [])) k [])
waits_more known rows n w lt h i k = elim (at_place rows n k (slice_index_or rows n [] ++ w ∷ []) [] lt) [
  | inl p ↦ subst (AllWait known k) (sym p.1) (subst (λ m. AllWait known m (slice_index_or rows n [] ++ w ∷ [])) (sym p.0) (wait_push known n (slice_index_or rows n []) w (h n) i))
  | inr p ↦ subst (AllWait known k) (sym p.1) (h k)
]

pub sum_more : (f : Gate → ℕ) (rows : List (List Waiter)) (n : ℕ) (w : Waiter) → n < length rows → gates_within f (slice_set rows n (slice_index_or rows n [] ++ w ∷ [])) ≡ gates_within f rows + f w.gate
sum_more f rows n w lt =
    let row : List Waiter = slice_index_or rows n [] in
    let s = sum_by-set (gates_in f) rows n (row ++ w ∷ []) [] lt in
    let p = sum_by_push (λ (x : Waiter). f x.gate) row w in
    omega (arith, s, p)

-- the outputs of a gate become known
pub waits_after : (known : List Bool) (os : List ℕ) (rows : List (List Waiter)) → ((k : ℕ) → AllWait known k (slice_index_or rows k [])) → (k : ℕ) → AllWait (marked os true known) k (slice_index_or (emptied os rows) k [])
waits_after known os rows h k =
    elim (is_among os k) as (λ v. is_among os k ≡ v → AllWait (marked os true known) k (slice_index_or (emptied os rows) k [])) [
      | true ↦ λ e. subst (AllWait (marked os true known) k) (sym (emptied_row os rows k e)) tt
      | false ↦ λ e. subst (AllWait (marked os true known) k) (sym (other_row os rows k e))
          (grown_wait known (marked os true known) k (λ n. marked_keeps os known n) (marked_other os true known k e) (slice_index_or rows k []) (h k))
    ] refl

set_scanned : (known : List Bool) (rows : List (List Waiter)) (o k : ℕ) → AllScanned known (slice_index_or rows k []) → AllScanned known (slice_index_or (slice_set rows o []) k [])
set_scanned known [] o k h = h
set_scanned known (r ∷ rows) zero zero h = tt
set_scanned known (r ∷ rows) zero (suc k) h = h
set_scanned known (r ∷ rows) (suc o) zero h = h
set_scanned known (r ∷ rows) (suc o) (suc k) h = set_scanned known rows o k h

woken_scanned : (known : List Bool) (os : List ℕ) (rows : List (List Waiter)) (fresh : List Waiter) → ((k : ℕ) → AllScanned known (slice_index_or rows k [])) → AllScanned known fresh → AllScanned known (woken os rows fresh)
woken_scanned known [] rows fresh h i = i
woken_scanned known (o ∷ os) rows fresh h i = woken_scanned known os (slice_set rows o []) (fresh ++ slice_index_or rows o []) (λ k. set_scanned known rows o k (h k)) (scanned_append known fresh (slice_index_or rows o []) i (h o))

pub scanned_after : (known : List Bool) (os : List ℕ) (rows : List (List Waiter)) (fresh : List Waiter) → ((k : ℕ) → AllWait known k (slice_index_or rows k [])) → AllScanned known fresh → AllScanned (marked os true known) (woken os rows fresh)
scanned_after known os rows fresh h i =
    grown_scanned known (marked os true known) (λ n. marked_keeps os known n) (woken os rows fresh)
    (woken_scanned known os rows fresh (λ k. wait_scanned known k (slice_index_or rows k []) (h k)) i)

set_sum : (f : Gate → ℕ) (rows : List (List Waiter)) (o : ℕ) → gates_within f (slice_set rows o []) + gates_in f (slice_index_or rows o []) ≡ gates_within f rows
set_sum f [] o = refl
set_sum f (r ∷ rows) zero =
    let a = sum_by-cons (gates_in f) r rows in
    let b = sum_by-cons (gates_in f) [] rows in
    let z : gates_in f [] ≡ 0 = refl in
    omega (arith, a, b, z)
set_sum f (r ∷ rows) (suc o) =
    let a = sum_by-cons (gates_in f) r rows in
    let b = sum_by-cons (gates_in f) r (slice_set rows o []) in
    let i = set_sum f rows o in
    omega (arith, a, b, i)

pub woken_sum : (f : Gate → ℕ) (os : List ℕ) (rows : List (List Waiter)) (fresh : List Waiter) → gates_in f (woken os rows fresh) + gates_within f (emptied os rows) ≡ gates_in f fresh + gates_within f rows
woken_sum f [] rows fresh = refl
woken_sum f (o ∷ os) rows fresh =
    let i = woken_sum f os (slice_set rows o []) (fresh ++ slice_index_or rows o []) in
    let a = sum_by-append (λ (x : Waiter). f x.gate) fresh (slice_index_or rows o []) in
    let s = set_sum f rows o in
    omega (arith, i, a, s)

-- ---- the outputs of a gate that isn't sorted yet are unknown

pub outputs_unknown : (nets : ℕ) (all sorted : List Gate) (g : Gate) → ((f : Gate → ℕ) → sum_by f sorted + f g ≤ sum_by f all) → AreWithin all nets → ((k : ℕ) → k < nets → drivers all k ≤ 1)
    → (o : ℕ) → is_among g.outputs o ≡ true → is_known (known_after sorted true (known_at_first nets all)) o ≡ false
outputs_unknown nets all sorted g parted within one o m =
    let p : Gate → Bool = λ x. is_among x.outputs o in
    let e : one_if (is_among g.outputs o) ≡ 1 = ap one_if m in
    let s = parted (λ x. one_if (p x)) in
    let driven : is_driven all o ≡ true = driven_is_some all o ∙ sum_some p all (omega (arith, e, s)) in
    let lt : o < nets = within o driven in
    let long : length (replicate nets true) ≡ nets = replicate_long nets in
    let free : is_driven sorted o ≡ false = elim (is_driven sorted o) as (λ v. is_driven sorted o ≡ v → is_driven sorted o ≡ false) [
      | true ↦ λ t.
          let a = driven_count sorted o t in
          let b = among_times g.outputs o m in
          let c = parted (λ x. times x.outputs o) in
          let d = one o lt in
          absurd (omega (arith, a, b, c, d))
      | false ↦ λ t. t
    ] refl in
    after_apart sorted true (known_at_first nets all) o free ∙ after_off all (replicate nets true) o (omega arith) driven

-- ---- what waits in the end isn't ready

wait_blocked : (known : List Bool) (n : ℕ) (ws : List Waiter) → AllWait known n ws → gates_in (λ g. one_if (is_ready known g)) ws ≡ 0
wait_blocked known n [] h = refl
wait_blocked known n (w ∷ ws) h =
    let c = sum_by-cons (λ (x : Waiter). one_if (is_ready known x.gate)) w ws in
    let i = wait_blocked known n ws h.3 in
    let not_ready : is_ready known w.gate ≡ false = elim (is_ready known w.gate) as (λ v. is_ready known w.gate ≡ v → is_ready known w.gate ≡ false) [
      | true ↦ λ t.
          let r : all_known known w.gate.inputs ≡ true = (both (all_known known w.gate.inputs) (all_unknown known w.gate.outputs) t).0 in
          let k : is_known known n ≡ true = input_known known w.gate.inputs n r h.1 in
          let u : is_known known n ≡ false = h.2 in absurd (cc)
      | false ↦ λ t. t
    ] refl in
    let z : one_if (is_ready known w.gate) ≡ 0 = ap one_if not_ready in
    omega (arith, c, i, z)

rows_blocked : (f : Gate → ℕ) (rows : List (List Waiter)) → ((k : ℕ) → gates_in f (slice_index_or rows k []) ≡ 0) → gates_within f rows ≡ 0
rows_blocked f [] h = refl
rows_blocked f (r ∷ rows) h =
    let c = sum_by-cons (gates_in f) r rows in
    let z : gates_in f r ≡ 0 = h zero in
    let i = rows_blocked f rows (λ k. h (suc k)) in
    omega (arith, c, z, i)

none_counted : (known : List Bool) (gates : List Gate) → sum_by (λ g. one_if (is_ready known g)) gates ≡ 0 → none_ready known gates ≡ true
none_counted known [] h = refl
none_counted known (g ∷ gates) h =
    let c = sum_by-cons (λ x. one_if (is_ready known x)) g gates in
    elim (is_ready known g) as (λ v. is_ready known g ≡ v → none_ready known (g ∷ gates) ≡ true) [
      | true ↦ λ t. let z : one_if (is_ready known g) ≡ 1 = ap one_if t in absurd (omega (arith, c, z, h))
      | false ↦ λ t. each (not (is_ready known g)) (none_ready known gates) (not_so (is_ready known g) t) (none_counted known gates (omega (arith, c, h)))
    ] refl

pub none_of_rows : (known : List Bool) (rows : List (List Waiter)) (gates : List Gate) → ((k : ℕ) → AllWait known k (slice_index_or rows k [])) → ((f : Gate → ℕ) → sum_by f gates ≡ gates_within f rows) → none_ready known gates ≡ true
none_of_rows known rows gates h s =
    none_counted known gates (s (λ g. one_if (is_ready known g)) ∙ rows_blocked (λ g. one_if (is_ready known g)) rows (λ k. wait_blocked known k (slice_index_or rows k []) (h k)))

-- ---- the search ends

pub count_all : {X : Type 0} (xs : List X) → sum_by (λ _. 1) xs ≡ length xs
count_all [] = refl
count_all (x ∷ xs) = let c = sum_by-cons (λ _. 1) x xs in let i = count_all xs in omega (arith, c, i)

-- one more is sorted, and whatever number is fresh then
pub fewer : (n s a b : ℕ) → s < n → b ≤ n → (n - (s + 1)) * (n + 1) + b < (n - s) * (n + 1) + a
fewer n s a b lt le = let d : ℕ = n - (s + 1) in let e : n - s ≡ d + 1 = omega arith in subst (λ m. d * (n + 1) + b < m * (n + 1) + a) (sym e) (omega arith)

-- ---- gates on their way into the order

pub record IsSorting (nets : ℕ) (all sorted : List Gate) (known : List Bool) (fresh : List Waiter) (rows : List (List Waiter)) : Type 0 where
  pub gates : (f : Gate → ℕ) → sum_by f sorted + (gates_in f fresh + gates_within f rows) ≡ sum_by f all
  pub ordered : is_ordered (known_at_first nets all) sorted ≡ true
  pub marks : known ≡ known_after sorted true (known_at_first nets all)
  pub scanned : AllScanned known fresh
  pub waits : (k : ℕ) → AllWait known k (slice_index_or rows k [])
  pub count : length rows ≡ nets

pub sorting_begins : (nets : ℕ) (all : List Gate) (fresh : List Waiter) (rows : List (List Waiter)) → ((f : Gate → ℕ) → gates_in f fresh ≡ sum_by f all) → AllScanned (known_at_first nets all) fresh → rows ≡ replicate nets []
    → IsSorting nets all [] (known_at_first nets all) fresh rows
sorting_begins nets all fresh rows g s e = record {
  gates = λ f.
      let h = g f in
      let r : gates_within f rows ≡ 0 = ap (gates_within f) e ∙ no_gates f nets in
      let z : sum_by f [] ≡ 0 = refl in
      omega (arith, h, r, z);
  ordered = refl;
  marks = refl;
  scanned = s;
  waits = λ k. subst (AllWait (known_at_first nets all) k) (sym (no_row rows nets k e)) tt;
  count = ap length e ∙ length-replicate nets [];
}

pub sorting_waits : (nets : ℕ) (all sorted : List Gate) (known : List Bool) (fresh : List Waiter) (rows : List (List Waiter)) (w : Waiter) (m : Missing) → IsSorting nets all sorted known (fresh ++ w ∷ []) rows → IsMissing known w.gate.inputs m → m.net < length rows
    → IsSorting nets all sorted known fresh (slice_set rows m.net (slice_index_or rows m.net [] ++ record { gate = w.gate; input = m.input } ∷ []))
sorting_waits nets all sorted known fresh rows w m s i lt =
    let v : Waiter = record { gate = w.gate; input = m.input } in
    record {
      gates = λ f.
          let h = s.gates f in
          let a = sum_by_push (λ (x : Waiter). f x.gate) fresh w in
          let b = sum_more f rows m.net v lt in
          omega (arith, h, a, b);
      ordered = s.ordered;
      marks = s.marks;
      scanned = scanned_front known fresh (w ∷ []) s.scanned;
      waits = waits_more known rows m.net v lt s.waits (i.before, i.input, i.unknown, tt);
      count = length-set rows m.net (slice_index_or rows m.net [] ++ v ∷ []) ∙ s.count;
    }

pub sorting_takes : (nets : ℕ) (all sorted : List Gate) (known : List Bool) (fresh : List Waiter) (rows : List (List Waiter)) (w : Waiter) → IsSorting nets all sorted known (fresh ++ w ∷ []) rows → AreWithin all nets → ((k : ℕ) → k < nets → drivers all k ≤ 1) → all_known known w.gate.inputs ≡ true
    → IsSorting nets all (sorted ++ w.gate ∷ []) (marked w.gate.outputs true known) (woken w.gate.outputs rows fresh) (emptied w.gate.outputs rows)
sorting_takes nets all sorted known fresh rows w s within one k =
    let g : Gate = w.gate in
    let first : List Bool = known_at_first nets all in
    let parted : (f : Gate → ℕ) → sum_by f sorted + f g ≤ sum_by f all = λ f. let h = s.gates f in let a = sum_by_push (λ (x : Waiter). f x.gate) fresh w in omega (arith, h, a) in
    let inputs : all_known (known_after sorted true first) g.inputs ≡ true = subst (λ ks. all_known ks g.inputs ≡ true) s.marks k in
    let outputs : all_unknown (known_after sorted true first) g.outputs ≡ true = all_are_unknown (known_after sorted true first) g.outputs (outputs_unknown nets all sorted g parted within one) in
    record {
      gates = λ f.
          let h = s.gates f in
          let a = sum_by_push (λ (x : Waiter). f x.gate) fresh w in
          let b = woken_sum f g.outputs rows fresh in
          let d = sum_by_push f sorted g in
          omega (arith, h, a, b, d);
      ordered = ordered_push sorted g first s.ordered (each (all_known (known_after sorted true first) g.inputs) (all_unknown (known_after sorted true first) g.outputs) inputs outputs);
      marks = ap (marked g.outputs true) s.marks ∙ sym (known_push sorted g true first);
      scanned = scanned_after known g.outputs rows fresh s.waits (scanned_front known fresh (w ∷ []) s.scanned);
      waits = waits_after known g.outputs rows s.waits;
      count = emptied_long g.outputs rows ∙ s.count;
    }

pub sorting_count : (nets : ℕ) (all sorted : List Gate) (known : List Bool) (fresh : List Waiter) (rows : List (List Waiter)) → IsSorting nets all sorted known fresh rows → length sorted + length fresh ≤ length all
sorting_count nets all sorted known fresh rows s =
    let h = s.gates (λ _. 1) in
    let a = count_all sorted in
    let b = count_all fresh in
    let c = count_all all in
    omega (arith, h, a, b, c)

pub sorting_long : (nets : ℕ) (all sorted : List Gate) (known : List Bool) (fresh : List Waiter) (rows : List (List Waiter)) → IsSorting nets all sorted known fresh rows → length known ≡ length rows
sorting_long nets all sorted known fresh rows s = ap length s.marks ∙ after_length sorted true (known_at_first nets all) ∙ first_long nets all ∙ sym s.count
