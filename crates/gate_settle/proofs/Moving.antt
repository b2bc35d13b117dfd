-- One pass over gates in an order of dependence makes the move.
use Rattle.std.proofs.Common.{◌≡◌, ℕ, ◌<◌, ◌≤◌, Bool, true, false, List, [], ◌∷◌, length, refl, sym, ◌∙◌, ap, subst, arith}
use Rattle.std.specs.Prelude.{◌==◌, ◌&&◌, ◌||◌, not, nat_lt, sum_by}
use Rattle.std.proofs.lemmas.List.{get_or-set_same, get_or-set_other}
use Rattle.std.proofs.Math.ListN.{length-set}
use Rattle.std.proofs.lemmas.Grind.{common_steps}
use Rattle.tern_core.specs.declared.tern.Tern.{Tern}
use Rattle.tern_core.specs.declared.tern.Tern.TheVariants.{Unknown}
use Rattle.udp_table.specs.Table.{Table}
use Rattle.gate_settle.specs.declared.gate.Function.{Function}
use Rattle.gate_settle.specs.declared.gate.Function.TheVariants.{Logic, Table as FromTable, State}
use Rattle.gate_settle.specs.declared.gate.Gate.{Gate}
use Rattle.gate_settle.specs.Gates.{value_at, function_value, gate_value, levels_of}
use Rattle.gate_settle.specs.Order.{marked, all_known, all_unknown, is_ordered}
use Rattle.gate_settle.specs.Settled.{written, values_after, next_state, IsStateMoved, AreStatesMoved, states_after_gate, states_after, nets_after, has_state, is_held, is_own, have_own_states}
use Rattle.gate_settle.proofs.Loops.{one_if, some_gate, some_sum, sum_none, same_some}
use Rattle.gate_settle.proofs.Sorting.{each}
use Rattle.std.proofs.lemmas.List.Sums.{sum_by-cons}
use Rattle.gate_settle.proofs.Settling.{both, neither, none, not_known, eq_self, same_of, apart_of, same_levels, after_other, known_apart}

below : (a b : ℕ) → nat_lt a b ≡ true → a < b
below a b h = grind (arith, common_steps, h)

first_true : (a b : Bool) → a ≡ true → (a || b) ≡ true
first_true true b h = refl
first_true false b h = absurd (cc)

second_true : (a b : Bool) → b ≡ true → (a || b) ≡ true
second_true true b h = refl
second_true false b h = h

not_not : (a : Bool) → not a ≡ false → a ≡ true
not_not true h = refl
not_not false h = absurd (cc)

module _ (tables : List Table) (old : List Tern) where
  gate_long : (nets states : List Tern) (g : Gate) (f : Function) → length (states_after_gate tables old nets states g f) ≡ length states
  gate_long nets states g (State table k) = length-set states k (next_state tables table (levels_of old g) (levels_of nets g) (value_at states k))
  gate_long nets states g (Logic fold inverted) = refl
  gate_long nets states g (FromTable table) = refl

  gate_other : (nets states : List Tern) (g : Gate) (f : Function) (k : ℕ) → has_state f k ≡ false → value_at (states_after_gate tables old nets states g f) k ≡ value_at states k
  gate_other nets states g (State table n) k h = get_or-set_other states n k (next_state tables table (levels_of old g) (levels_of nets g) (value_at states n)) Unknown (apart_of n k h)
  gate_other nets states g (Logic fold inverted) k h = refl
  gate_other nets states g (FromTable table) k h = refl

  pub states_long : (gates : List Gate) (nets states : List Tern) → length (states_after tables old gates nets states) ≡ length states
  states_long [] nets states = refl
  states_long (g ∷ gates) nets states =
      let moved = states_after_gate tables old nets states g g.function in
      states_long gates (written g.outputs (gate_value tables moved nets g) nets) moved ∙ gate_long nets states g g.function

  -- a state that none of the gates holds stays
  states_other : (gates : List Gate) (nets states : List Tern) (k : ℕ) → is_held gates k ≡ false → value_at (states_after tables old gates nets states) k ≡ value_at states k
  states_other [] nets states k h = refl
  states_other (g ∷ gates) nets states k h =
      let moved = states_after_gate tables old nets states g g.function in
      let i = neither (has_state g.function k) (is_held gates k) h in
      states_other gates (written g.outputs (gate_value tables moved nets g) nets) moved k i.1 ∙ gate_other nets states g g.function k i.0

  own_value : (count : ℕ) (gates : List Gate) (a b levels : List Tern) (f : Function) → is_own count gates f ≡ true → ((k : ℕ) → is_held gates k ≡ false → value_at a k ≡ value_at b k) → function_value tables a f levels ≡ function_value tables b f levels
  own_value count gates a b levels (State table k) o h = h k (not_known (is_held gates k) (both (nat_lt k count) (not (is_held gates k)) o).1)
  own_value count gates a b levels (Logic fold inverted) o h = refl
  own_value count gates a b levels (FromTable table) o h = refl

  -- the pass is the one that settles, with the new states
  pub move_is_pass : (count : ℕ) (gates : List Gate) (nets states : List Tern) → have_own_states count gates ≡ true → nets_after tables old gates nets states ≡ values_after tables (states_after tables old gates nets states) gates nets
  move_is_pass count [] nets states o = refl
  move_is_pass count (g ∷ gates) nets states o =
      let i = both (is_own count gates g.function) (have_own_states count gates) o in
      let moved : List Tern = states_after_gate tables old nets states g g.function in
      let next : List Tern = written g.outputs (gate_value tables moved nets g) nets in
      let last : List Tern = states_after tables old gates next moved in
      let same : gate_value tables last nets g ≡ gate_value tables moved nets g = own_value count gates last moved (levels_of nets g) g.function i.0 (λ k h. states_other gates next moved k h) in
      move_is_pass count gates next moved i.1 ∙ ap (λ v. values_after tables last gates (written g.outputs v nets)) (sym same)

  one_moved : (count : ℕ) (gates : List Gate) (nets first states last new : List Tern) (g : Gate) (f : Function) → is_own count gates f ≡ true → count ≡ length states → levels_of new g ≡ levels_of nets g
      → ((k : ℕ) → has_state f k ≡ true → value_at states k ≡ value_at first k) → ((k : ℕ) → is_held gates k ≡ false → value_at last k ≡ value_at (states_after_gate tables old nets states g f) k) → IsStateMoved tables old first new last g f
  one_moved count gates nets first states last new g (State table k) o c same before after =
      let i = both (nat_lt k count) (not (is_held gates k)) o in
      let lt : k < length states = subst (λ n. k < n) c (below k count i.0) in
      let e : value_at states k ≡ value_at first k = before k (eq_self k) in
      after k (not_known (is_held gates k) i.1) ∙ get_or-set_same states k (next_state tables table (levels_of old g) (levels_of nets g) (value_at states k)) Unknown lt
      ∙ ap (λ ls. next_state tables table (levels_of old g) ls (value_at states k)) (sym same) ∙ ap (λ v. next_state tables table (levels_of old g) (levels_of new g) v) e
  one_moved count gates nets first states last new g (Logic fold inverted) o c same before after = tt
  one_moved count gates nets first states last new g (FromTable table) o c same before after = tt

  held_apart : (count : ℕ) (gates : List Gate) (f : Function) (k : ℕ) → is_own count gates f ≡ true → is_held gates k ≡ true → has_state f k ≡ false
  held_apart count gates (State table n) k o h =
      let i = both (nat_lt n count) (not (is_held gates n)) o in
      let free : is_held gates n ≡ false = not_known (is_held gates n) i.1 in
      elim (n == k) as (λ v. (n == k) ≡ v → (n == k) ≡ false) [
        | true ↦ λ e. let s : n ≡ k = same_of n k e in let c : is_held gates k ≡ false = subst (λ m. is_held gates m ≡ false) s free in absurd (cc)
        | false ↦ λ e. e
      ] refl
  held_apart count gates (Logic fold inverted) k o h = refl
  held_apart count gates (FromTable table) k o h = refl

  -- each state has moved
  pub states_moved : (known : List Bool) (count : ℕ) (gates : List Gate) (nets first states : List Tern) → is_ordered known gates ≡ true → have_own_states count gates ≡ true → count ≡ length states
      → ((k : ℕ) → is_held gates k ≡ true → value_at states k ≡ value_at first k) → AreStatesMoved tables old first (nets_after tables old gates nets states) (states_after tables old gates nets states) gates
  states_moved known count [] nets first states o own c h = tt
  states_moved known count (g ∷ gates) nets first states o own c h =
      let i = both (is_own count gates g.function) (have_own_states count gates) own in
      let j = both (all_known known g.inputs) (all_unknown known g.outputs && is_ordered (marked g.outputs true known) gates) o in
      let k = both (all_unknown known g.outputs) (is_ordered (marked g.outputs true known) gates) j.1 in
      let moved : List Tern = states_after_gate tables old nets states g g.function in
      let next : List Tern = written g.outputs (gate_value tables moved nets g) nets in
      let last : List Tern = states_after tables old gates next moved in
      let new : List Tern = nets_after tables old gates next moved in
      let pass : new ≡ values_after tables last (g ∷ gates) nets = move_is_pass count (g ∷ gates) nets states own in
      let levels : levels_of new g ≡ levels_of nets g = same_levels tables last known new nets g.inputs (λ n u. ap (λ xs. value_at xs n) pass ∙ after_other tables last (g ∷ gates) nets n (known_apart known (g ∷ gates) n o u)) j.0 in (
        one_moved count gates nets first states last new g g.function i.0 c levels (λ n e. h n (first_true (has_state g.function n) (is_held gates n) e)) (λ n e. states_other gates next moved n e),
        states_moved (marked g.outputs true known) count gates next first moved k.1 i.1 (c ∙ sym (gate_long nets states g g.function)) (λ n e.
            gate_other nets states g g.function n (held_apart count gates g.function n i.0 e) ∙ h n (second_true (has_state g.function n) (is_held gates n) e)),
      )

-- ---- states of their own, in another order of the gates

unfoldable holders : List Gate → ℕ → ℕ
holders gates k = sum_by (λ g. one_if (has_state g.function k)) gates

held_is_some : (gates : List Gate) (k : ℕ) → is_held gates k ≡ some_gate (λ g. has_state g.function k) gates
unfolding some_gate
held_is_some [] k = refl
held_is_some (g ∷ gates) k = ap (λ v. has_state g.function k || v) (held_is_some gates k)

none_held : (gates : List Gate) (k : ℕ) → is_held gates k ≡ false → holders gates k ≡ 0
unfolding holders
none_held gates k h = sum_none (λ g. has_state g.function k) gates (sym (held_is_some gates k) ∙ h)

zero_held : (gates : List Gate) (k : ℕ) → holders gates k ≡ 0 → is_held gates k ≡ false
unfolding holders
zero_held gates k z = elim (is_held gates k) as (λ v. is_held gates k ≡ v → is_held gates k ≡ false) [
  | true ↦ λ e. let p = some_sum (λ g. has_state g.function k) gates (sym (held_is_some gates k) ∙ e) in absurd (omega (arith, p, z))
  | false ↦ λ e. e
] refl

-- a gate's state is one of so many
within_count : ℕ → Function → Bool
within_count count (State table k) = nat_lt k count
within_count count (Logic fold inverted) = true
within_count count (FromTable table) = true

own_within : (count : ℕ) (gates : List Gate) (f : Function) → is_own count gates f ≡ true → within_count count f ≡ true
unfolding within_count
own_within count gates (State table k) h = (both (nat_lt k count) (not (is_held gates k)) h).0
own_within count gates (Logic fold inverted) h = refl
own_within count gates (FromTable table) h = refl

own_held : (count : ℕ) (gates : List Gate) (f : Function) (k : ℕ) → is_own count gates f ≡ true → has_state f k ≡ true → is_held gates k ≡ false
own_held count gates (State table n) k h e = subst (λ m. is_held gates m ≡ false) (same_of n k e) (not_known (is_held gates n) (both (nat_lt n count) (not (is_held gates n)) h).1)
own_held count gates (Logic fold inverted) k h e = absurd (cc)
own_held count gates (FromTable table) k h e = absurd (cc)

own_one : (count : ℕ) (gates : List Gate) → have_own_states count gates ≡ true → (k : ℕ) → holders gates k ≤ 1
unfolding holders
own_one count [] o k = omega arith
own_one count (g ∷ gates) o k =
    let i = both (is_own count gates g.function) (have_own_states count gates) o in
    let c = sum_by-cons (λ x. one_if (has_state x.function k)) g gates in
    let rest = own_one count gates i.1 k in
    elim (has_state g.function k) as (λ v. has_state g.function k ≡ v → holders (g ∷ gates) k ≤ 1) [
      | true ↦ λ e. let one : one_if (has_state g.function k) ≡ 1 = ap one_if e in let z = none_held gates k (own_held count gates g.function k i.0 e) in omega (arith, c, one, z)
      | false ↦ λ e. let none : one_if (has_state g.function k) ≡ 0 = ap one_if e in omega (arith, c, none, rest)
    ] refl

own_all : (count : ℕ) (gates : List Gate) → have_own_states count gates ≡ true → some_gate (λ g. not (within_count count g.function)) gates ≡ false
unfolding some_gate
own_all count [] o = refl
own_all count (g ∷ gates) o =
    let i = both (is_own count gates g.function) (have_own_states count gates) o in
    none (not (within_count count g.function)) (some_gate (λ x. not (within_count count x.function)) gates) (ap not (own_within count gates g.function i.0)) (own_all count gates i.1)

owned : (count : ℕ) (gates : List Gate) (f : Function) → within_count count f ≡ true → ((k : ℕ) → has_state f k ≡ true → is_held gates k ≡ false) → is_own count gates f ≡ true
unfolding within_count
owned count gates (State table k) w h = each (nat_lt k count) (not (is_held gates k)) w (ap not (h k (eq_self k)))
owned count gates (Logic fold inverted) w h = refl
owned count gates (FromTable table) w h = refl

own_of : (count : ℕ) (gates : List Gate) → ((k : ℕ) → holders gates k ≤ 1) → some_gate (λ g. not (within_count count g.function)) gates ≡ false → have_own_states count gates ≡ true
unfolding holders some_gate
own_of count [] h w = refl
own_of count (g ∷ gates) h w =
    let j = neither (not (within_count count g.function)) (some_gate (λ x. not (within_count count x.function)) gates) w in
    each (is_own count gates g.function) (have_own_states count gates)
    (owned count gates g.function (not_not (within_count count g.function) j.0) (λ k e.
    let c = sum_by-cons (λ x. one_if (has_state x.function k)) g gates in
    let one : one_if (has_state g.function k) ≡ 1 = ap one_if e in
    let most = h k in
    zero_held gates k (omega (arith, c, one, most))))
    (own_of count gates (λ k. let c = sum_by-cons (λ x. one_if (has_state x.function k)) g gates in let most = h k in omega (arith, c, most)) j.1)

-- in another order each state still has one gate
pub own_arranged : (count : ℕ) (sorted all : List Gate) → ((f : Gate → ℕ) → sum_by f sorted ≡ sum_by f all) → have_own_states count all ≡ true → have_own_states count sorted ≡ true
unfolding holders
own_arranged count sorted all h o =
    own_of count sorted (λ k. let e = h (λ g. one_if (has_state g.function k)) in let m = own_one count all o k in omega (arith, e, m))
    (same_some (λ g. not (within_count count g.function)) sorted all h ∙ own_all count all o)
