-- The common value of the ends of all orders, from the set of these ends.
use Rattle.std.proofs.Common.{◌≡◌, ◌≢◌, ◌↔◌, ℕ, zero, suc, ◌+◌, ◌<◌, ◌≤◌, Bool, true, false, cond, List, [], ◌∷◌, length, get_or, All, Contains, refl, ap, sym, ◌∙◌, subst, inl, inr, ⊎_elim, arith, eq-eqb}
use Rattle.std.proofs.lemmas.Bool.{cases_eq, cases_lt, ne_eqb}
use Rattle.std.proofs.lemmas.List.Elements.{All-head, All-tail, All-contains}
use Rattle.tern_core.specs.declared.tern.Tern.{Tern}
use Rattle.tern_core.specs.declared.tern.Tern.TheVariants.{Zero, One, Unknown}
use Rattle.tern_core.specs.Values.{common_of, common_of_all}
use Rattle.udp_table.specs.declared.states.States.{States}
use Rattle.udp_table.specs.declared.row.Row.{Row}
use Rattle.udp_table.specs.Symbols.{differ}
use Rattle.udp_table.specs.Orders.{changed_from, changed_inputs, orders_of, state_after, ends_of, change_of}
use Rattle.udp_table.specs.Subsets.{has, common_by, common_state}
use Rattle.udp_table.specs.Reached.{times, EndsIn, AreEnds}
use Rattle.udp_table.proofs.Orders.{Among, among_map, among_map-from, listed-is, is-listed, times-same}

-- ---- the common value of a list

common_of-same : (v : Tern) → common_of v v ≡ v
common_of-same Zero = refl
common_of-same One = refl
common_of-same Unknown = refl

common_of-known : (a c w : Tern) → w ≢ Unknown → common_of a c ≡ w → (a ≡ w) × (c ≡ w)
common_of-known Zero Zero w k h = (h, h)
common_of-known Zero One w k h = absurd (k (sym h))
common_of-known Zero Unknown w k h = absurd (k (sym h))
common_of-known One Zero w k h = absurd (k (sym h))
common_of-known One One w k h = (h, h)
common_of-known One Unknown w k h = absurd (k (sym h))
common_of-known Unknown c w k h = absurd (k (sym h))

all_same : (v : Tern) (l : List Tern) (a : Tern) → ((w : Tern) → Among w (a ∷ l) → w ≡ v) → common_of_all (a ∷ l) ≡ v
all_same v [] a h = h a (inl refl)
all_same v (b ∷ l) a h =
    ap (common_of a) (all_same v l b (λ w k. h w (inr k))) ∙ ap (λ x. common_of x v) (h a (inl refl)) ∙ common_of-same v

known_common : (l : List Tern) (w : Tern) → w ≢ Unknown → common_of_all l ≡ w → (v : Tern) → Among v l → v ≡ w
known_common [] w k h v among = absurd among
known_common (a ∷ []) w k h v (inl e) = e ∙ h
known_common (a ∷ []) w k h v (inr n) = absurd n
known_common (a ∷ b ∷ l) w k h v (inl e) = e ∙ (common_of-known a (common_of_all (b ∷ l)) w k h).0
known_common (a ∷ b ∷ l) w k h v (inr n) =
    known_common (b ∷ l) w k (common_of-known a (common_of_all (b ∷ l)) w k h).1 v n

mixed_at : (l : List Tern) (v w c : Tern) → common_of_all l ≡ c → Among v l → Among w l → v ≢ w → common_of_all l ≡ Unknown
mixed_at l v w Zero h p q apart = absurd (apart (known_common l Zero (λ e. cc) h v p ∙ sym (known_common l Zero (λ e. cc) h w q)))
mixed_at l v w One h p q apart = absurd (apart (known_common l One (λ e. cc) h v p ∙ sym (known_common l One (λ e. cc) h w q)))
mixed_at l v w Unknown h p q apart = h

mixed : (l : List Tern) (v w : Tern) → Among v l → Among w l → v ≢ w → common_of_all l ≡ Unknown
mixed l v w p q apart = mixed_at l v w (common_of_all l) refl p q apart

abbrev Shows : Bool → Bool → Bool → Tern → Bool
Shows z o u Zero = z
Shows z o u One = o
Shows z o u Unknown = u

alone_zero : (w : Tern) → Shows true false false w ≡ true → w ≡ Zero
alone_zero Zero h = refl
alone_zero One h = cc
alone_zero Unknown h = cc

alone_one : (w : Tern) → Shows false true false w ≡ true → w ≡ One
alone_one Zero h = cc
alone_one One h = refl
alone_one Unknown h = cc

alone_unknown : (w : Tern) → Shows false false true w ≡ true → w ≡ Unknown
alone_unknown Zero h = cc
alone_unknown One h = cc
alone_unknown Unknown h = refl

alone_none : (w : Tern) → Shows false false false w ≡ true → ⊥
alone_none Zero h = cc
alone_none One h = cc
alone_none Unknown h = cc

one_alone : (v : Tern) (l : List Tern) (a : Tern) → Among a l → ((w : Tern) → Among w l → w ≡ v) → common_of_all l ≡ v
one_alone v [] a some h = absurd some
one_alone v (b ∷ l) a some h = all_same v l b h

by_bits : (z o u : Bool) (l : List Tern) (a : Tern) → Among a l → ((v : Tern) → (Shows z o u v ≡ true) ↔ Among v l) → common_by z o u ≡ common_of_all l
by_bits true true u l a some is = sym (mixed l Zero One ((is Zero).0 refl) ((is One).0 refl) (λ e. cc))
by_bits true false true l a some is = sym (mixed l Zero Unknown ((is Zero).0 refl) ((is Unknown).0 refl) (λ e. cc))
by_bits false true true l a some is = sym (mixed l One Unknown ((is One).0 refl) ((is Unknown).0 refl) (λ e. cc))
by_bits true false false l a some is = sym (one_alone Zero l a some (λ w k. alone_zero w ((is w).1 k)))
by_bits false true false l a some is = sym (one_alone One l a some (λ w k. alone_one w ((is w).1 k)))
by_bits false false true l a some is = sym (one_alone Unknown l a some (λ w k. alone_unknown w ((is w).1 k)))
by_bits false false false l a some is = absurd (alone_none a ((is a).1 some))

shows : (s : States) (v : Tern) → Shows s.zero s.one s.unknown v ≡ has s v
shows s Zero = refl
shows s One = refl
shows s Unknown = refl

common-set : (s : States) (l : List Tern) (a : Tern) → Among a l → ((v : Tern) → (has s v ≡ true) ↔ Among v l) → common_state s ≡ common_of_all l
common-set s l a some is = by_bits s.zero s.one s.unknown l a some (λ v. (λ h. (is v).0 (sym (shows s v) ∙ h), λ k. shows s v ∙ (is v).1 k))

-- ---- the ends of all orders

ends-listed : (rows : List Row) (old new : List Tern) (state v : Tern) → EndsIn rows old new state (changed_inputs old new) v → Among v (ends_of rows old new state)
ends-listed rows old new state v h =
    subst (λ w. Among w (ends_of rows old new state)) h.2
    (among_map (λ order. state_after rows new order old state) h.0 (orders_of (changed_inputs old new)) (is-listed (changed_inputs old new) h.0 h.1))

listed-ends : (rows : List Row) (old new : List Tern) (state v : Tern) → Among v (ends_of rows old new state) → EndsIn rows old new state (changed_inputs old new) v
listed-ends rows old new state v h =
    let r = among_map-from (λ order. state_after rows new order old state) v (orders_of (changed_inputs old new)) h in
    (r.0, listed-is (changed_inputs old new) r.0 r.1, sym r.2)

pub common-ends : (rows : List Row) (old new : List Tern) (state : Tern) (s : States) → AreEnds rows old new state (changed_inputs old new) s → common_state s ≡ change_of rows old new state
common-ends rows old new state s is =
    let inputs = changed_inputs old new in
    let end = state_after rows new inputs old state in
    common-set s (ends_of rows old new state) end (ends-listed rows old new state end (inputs, λ w. refl, refl))
    (λ v. (λ h. ends-listed rows old new state v ((is v).0 h), λ k. (is v).1 (listed-ends rows old new state v k)))

-- ---- the inputs that change

pub listed-passes : (P : ℕ → Type 0) (xs : List ℕ) (w : ℕ) → All P xs → 0 < times w xs → P w
listed-passes P [] w all h = absurd (omega arith)
listed-passes P (x ∷ xs) w all h =
    ⊎_elim (λ e. subst P (sym e) (All-head P x xs all))
    (λ ne.
    let counted : 0 < 0 + times w xs = subst (λ b. 0 < cond b 1 0 + times w xs) (ne_eqb w x ne) h in
    listed-passes P xs w (All-tail P x xs all) (omega arith)) (cases_eq w x)

-- the inputs that change are below the number of all, and each stands once
changed_step : (n : ℕ) (old new : List Tern) (w : ℕ) (b : Bool) → (0 < times w (changed_from (n + 1) old new) → (n + 1 ≤ w) × (w < n + 1 + length old)) → 0 < times w (cond b (n ∷ changed_from (n + 1) old new) (changed_from (n + 1) old new)) → (n ≤ w) × (w < n + suc (length old))
changed_step n old new w false rest h = let r = rest h in (omega arith, omega arith)
changed_step n old new w true rest h =
    ⊎_elim (λ e. (omega arith, omega arith))
    (λ ne.
    let counted : 0 < 0 + times w (changed_from (n + 1) old new) = subst (λ b. 0 < cond b 1 0 + times w (changed_from (n + 1) old new)) (ne_eqb w n ne) h in
    let r = rest (omega arith) in
    (omega arith, omega arith)) (cases_eq w n)

changed-range : (n : ℕ) (old new : List Tern) (w : ℕ) → 0 < times w (changed_from n old new) → (n ≤ w) × (w < n + length old)
changed-range n [] new w h = absurd (omega arith)
changed-range n (v ∷ old) [] w h = absurd (omega arith)
changed-range n (v ∷ old) (u ∷ new) w h = changed_step n old new w (differ v u) (changed-range (n + 1) old new w) h

absent : (n : ℕ) (old new : List Tern) (w : ℕ) → w < n → times w (changed_from n old new) ≡ 0
absent n old new w h =
    ⊎_elim (λ some. absurd (omega (arith, changed-range n old new w some))) (λ e. omega arith) (cases_lt 0 (times w (changed_from n old new)))

once_step : (n : ℕ) (old new : List Tern) (w : ℕ) (b : Bool) → times w (changed_from (n + 1) old new) ≤ 1 → times w (cond b (n ∷ changed_from (n + 1) old new) (changed_from (n + 1) old new)) ≤ 1
once_step n old new w false rest = rest
once_step n old new w true rest =
    ⊎_elim
    (λ e. subst (λ b. cond b 1 0 + times w (changed_from (n + 1) old new) ≤ 1) (sym (eq-eqb w n e)) (omega (arith, absent (n + 1) old new w (omega arith))))
    (λ ne. subst (λ b. cond b 1 0 + times w (changed_from (n + 1) old new) ≤ 1) (sym (ne_eqb w n ne)) (omega arith)) (cases_eq w n)

changed-once : (n : ℕ) (old new : List Tern) (w : ℕ) → times w (changed_from n old new) ≤ 1
changed-once n [] new w = omega arith
changed-once n (v ∷ old) [] w = omega arith
changed-once n (v ∷ old) (u ∷ new) w = once_step n old new w (differ v u) (changed-once (n + 1) old new w)

pub changed-below : (old new : List Tern) (w : ℕ) → 0 < times w (changed_inputs old new) → w < length old
changed-below old new w h = omega (arith, changed-range 0 old new w h)

pub changed-single : (old new : List Tern) (w : ℕ) → times w (changed_inputs old new) ≤ 1
changed-single old new w = changed-once 0 old new w

stands : (xs : List ℕ) (k d : ℕ) → k < length xs → 0 < times (get_or xs k d) xs
stands [] k d h = absurd (omega arith)
stands (x ∷ xs) zero d h = omega (arith, times-same x xs)
stands (x ∷ xs) (suc k) d h =
    let rest : 0 < times (get_or xs k d) xs = stands xs k d (omega arith) in
    omega arith

-- what holds of each element that stands in a list holds of all
pub passes-listed : (P : ℕ → Type 0) (xs : List ℕ) → ((w : ℕ) → 0 < times w xs → P w) → All P xs
passes-listed P xs h k d inside = h (get_or xs k d) (stands xs k d inside)

-- ---- the common end by places

among_at : {X : Type 0} (x : X) (xs : List X) (k : ℕ) → k < length xs → get_or xs k x ≡ x → Among x xs
among_at x [] k h e = absurd (omega arith)
among_at x (y ∷ ys) zero h e = inl (sym e)
among_at x (y ∷ ys) (suc k) h e = inr (among_at x ys k (omega arith) e)

pub among_contains : {X : Type 0} (x : X) (xs : List X) → Contains xs x → Among x xs
among_contains x xs h = among_at x xs h.0 h.1 h.2

pub contains_among : {X : Type 0} (x : X) (xs : List X) → Among x xs → Contains xs x
contains_among x [] h = absurd h
contains_among x (y ∷ ys) (inl e) = (0, omega arith, sym e)
contains_among x (y ∷ ys) (inr h) = let r = contains_among x ys h in (suc r.0, omega (arith, r.1), r.2)

one_end : (rows : List Row) (old new : List Tern) (state : Tern) → Among (state_after rows new (changed_inputs old new) old state) (ends_of rows old new state)
one_end rows old new state = ends-listed rows old new state (state_after rows new (changed_inputs old new) old state) (changed_inputs old new, λ w. refl, refl)

pub same_ends : (rows : List Row) (old new : List Tern) (state end : Tern) → All (λ other. other ≡ end) (ends_of rows old new state) → change_of rows old new state ≡ end
same_ends rows old new state end all =
    one_alone end (ends_of rows old new state) (state_after rows new (changed_inputs old new) old state) (one_end rows old new state)
    (λ w k. All-contains (λ other. other ≡ end) (ends_of rows old new state) w all (contains_among w (ends_of rows old new state) k))

pub different_ends : (rows : List Row) (old new : List Tern) (state one other : Tern) → Contains (ends_of rows old new state) one → Contains (ends_of rows old new state) other → one ≢ other → change_of rows old new state ≡ Unknown
different_ends rows old new state one other p q apart =
    mixed (ends_of rows old new state) one other (among_contains one (ends_of rows old new state) p) (among_contains other (ends_of rows old new state) q) apart
