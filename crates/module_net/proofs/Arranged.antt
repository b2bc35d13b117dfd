-- Gates in another order are settled and moved just as well.
use Rattle.std.proofs.Common.{◌⊎◌, inl, inr, ◌≡◌, ℕ, ◌<◌, Bool, true, false, List, [], ◌∷◌, refl, sym, ◌∙◌, ap, subst, arith}
use Rattle.std.specs.Prelude.{◌&&◌, ◌||◌, not, sum_by}
use Rattle.std.proofs.lemmas.List.Sums.{sum_by-cons}
use Rattle.tern_core.specs.declared.tern.Tern.{Tern}
use Rattle.tern_core.specs.declared.tern.Tern.TheVariants.{Zero, One, Unknown}
use Rattle.udp_table.specs.Table.{Table}
use Rattle.gate_settle.specs.declared.gate.Gate.{Gate}
use Rattle.gate_settle.specs.declared.gate.Function.{Function}
use Rattle.gate_settle.specs.declared.gate.Function.TheVariants.{Logic, Table as FromTable, State}
use Rattle.gate_settle.specs.Gates.{value_at, gate_value, is_among, is_driven, levels_of}
use Rattle.gate_settle.specs.Settled.{AllHave, AreGatesSettled, next_state, IsStateMoved, AreStatesMoved}

-- ---- a test of some gate is one of the same gates in another order

abbrev pub some : (Gate → Bool) → List Gate → Bool
some p [] = false
some p (g ∷ gates) = p g || some p gates

abbrev pub one_if : Bool → ℕ
one_if true = 1
one_if false = 0

none_counted : (p : Gate → Bool) (gates : List Gate) → some p gates ≡ false → sum_by (λ g. one_if (p g)) gates ≡ 0
none_counted p [] h = refl
none_counted p (g ∷ gates) h = go (p g) refl h (none_counted p gates)
  where
    go : (b : Bool) → p g ≡ b → (b || some p gates) ≡ false → (some p gates ≡ false → sum_by (λ g. one_if (p g)) gates ≡ 0) → sum_by (λ g. one_if (p g)) (g ∷ gates) ≡ 0
    go true e f rest = absurd cc
    go false e f rest =
        let c = sum_by-cons (λ g. one_if (p g)) g gates in
        let z : one_if (p g) ≡ 0 = ap one_if e in
        let r = rest f in
        omega (arith, c, z, r)

some_counted : (p : Gate → Bool) (gates : List Gate) → some p gates ≡ true → 0 < sum_by (λ g. one_if (p g)) gates
some_counted p [] h = absurd cc
some_counted p (g ∷ gates) h = go (p g) refl h (some_counted p gates)
  where
    go : (b : Bool) → p g ≡ b → (b || some p gates) ≡ true → (some p gates ≡ true → 0 < sum_by (λ g. one_if (p g)) gates) → 0 < sum_by (λ g. one_if (p g)) (g ∷ gates)
    go true e f rest =
        let c = sum_by-cons (λ g. one_if (p g)) g gates in
        let z : one_if (p g) ≡ 1 = ap one_if e in
        omega (arith, c, z)
    go false e f rest =
        let c = sum_by-cons (λ g. one_if (p g)) g gates in
        let r = rest f in
        omega (arith, c, r)

pub same_some : (p : Gate → Bool) (a b : List Gate) → ((f : Gate → ℕ) → sum_by f a ≡ sum_by f b) → some p a ≡ some p b
same_some p a b h = go (some p a) (some p b) refl refl
  where
    go : (x y : Bool) → some p a ≡ x → some p b ≡ y → x ≡ y
    go true true e f = refl
    go false false e f = refl
    go true false e f = absurd (let i = some_counted p a e in let j = none_counted p b f in let s = h (λ g. one_if (p g)) in omega (arith, i, j, s))
    go false true e f = absurd (let i = some_counted p b f in let j = none_counted p a e in let s = h (λ g. one_if (p g)) in omega (arith, i, j, s))

pub driven_some : (gates : List Gate) (k : ℕ) → is_driven gates k ≡ some (λ g. is_among g.outputs k) gates
driven_some [] k = refl
driven_some (g ∷ gates) k = ap (λ v. is_among g.outputs k || v) (driven_some gates k)

pub same_driven : (a b : List Gate) → ((f : Gate → ℕ) → sum_by f a ≡ sum_by f b) → (k : ℕ) → is_driven a k ≡ is_driven b k
same_driven a b h k = driven_some a k ∙ same_some (λ g. is_among g.outputs k) a b h ∙ sym (driven_some b k)

-- ---- settled gates by a test

abbrev pub is_same : Tern → Tern → Bool
is_same Zero Zero = true
is_same One One = true
is_same Unknown Unknown = true
is_same a b = false

pub same_value : (a b : Tern) → is_same a b ≡ true → a ≡ b
same_value Zero Zero h = refl
same_value One One h = refl
same_value Unknown Unknown h = refl
same_value Zero One h = absurd cc
same_value Zero Unknown h = absurd cc
same_value One Zero h = absurd cc
same_value One Unknown h = absurd cc
same_value Unknown Zero h = absurd cc
same_value Unknown One h = absurd cc

same_self : (a : Tern) → is_same a a ≡ true
same_self Zero = refl
same_self One = refl
same_self Unknown = refl

pub same_by : (a b : Tern) → a ≡ b → is_same a b ≡ true
same_by a b e = subst (λ z. is_same a z ≡ true) e (same_self a)

pub either : (a b : Bool) → (a || b) ≡ true → (a ≡ true) ⊎ (b ≡ true)
either true b h = inl refl
either false b h = inr h

pub both : (a b : Bool) → (a && b) ≡ true → (a ≡ true) × (b ≡ true)
both true b h = (refl, h)
both false b h = absurd cc

pub and_true : (a b : Bool) → a ≡ true → b ≡ true → (a && b) ≡ true
and_true true b h k = k
and_true false b h k = absurd cc

neither : (a b : Bool) → (a || b) ≡ false → (a ≡ false) × (b ≡ false)
neither true b h = absurd cc
neither false b h = (refl, h)

nor_false : (a b : Bool) → a ≡ false → b ≡ false → (a || b) ≡ false
nor_false true b h k = absurd cc
nor_false false b h k = k

not_false : (a : Bool) → not a ≡ false → a ≡ true
not_false true h = refl
not_false false h = absurd cc

abbrev pub all_have : List Tern → List ℕ → Tern → Bool
all_have nets [] value = true
all_have nets (o ∷ outputs) value = is_same (value_at nets o) value && all_have nets outputs value

have_by : (nets : List Tern) (outputs : List ℕ) (value : Tern) → all_have nets outputs value ≡ true → AllHave nets outputs value
have_by nets [] value h = tt
have_by nets (o ∷ outputs) value h = let r = both _ _ h in (same_value _ _ r.0, have_by nets outputs value r.1)

by_have : (nets : List Tern) (outputs : List ℕ) (value : Tern) → AllHave nets outputs value → all_have nets outputs value ≡ true
by_have nets [] value h = refl
by_have nets (o ∷ outputs) value h = and_true _ _ (same_by _ _ h.0) (by_have nets outputs value h.1)

module _ (tables : List Table) (states nets : List Tern) where
  abbrev pub unsettled : Gate → Bool
  unsettled g = not (all_have nets g.outputs (gate_value tables states nets g))

  settled_by : (gates : List Gate) → some unsettled gates ≡ false → AreGatesSettled tables states nets gates
  settled_by [] h = tt
  settled_by (g ∷ gates) h = let r = neither _ _ h in (have_by nets g.outputs _ (not_false _ r.0), settled_by gates r.1)

  by_settled : (gates : List Gate) → AreGatesSettled tables states nets gates → some unsettled gates ≡ false
  by_settled [] h = refl
  by_settled (g ∷ gates) h = nor_false _ _ (ap not (by_have nets g.outputs _ h.0)) (by_settled gates h.1)

  pub settled_same : (a b : List Gate) → ((f : Gate → ℕ) → sum_by f a ≡ sum_by f b) → AreGatesSettled tables states nets a → AreGatesSettled tables states nets b
  settled_same a b h s = settled_by b (sym (same_some unsettled a b h) ∙ by_settled a s)

-- ---- moved states by a test

module _ (tables : List Table) (old old_states new new_states : List Tern) where
  abbrev pub unmoved_by : Gate → Function → Bool
  unmoved_by g (State table k) = not (is_same (value_at new_states k) (next_state tables table (levels_of old g) (levels_of new g) (value_at old_states k)))
  unmoved_by g (Logic fold inverted) = false
  unmoved_by g (FromTable table) = false

  abbrev pub unmoved : Gate → Bool
  unmoved g = unmoved_by g g.function

  one_moved : (g : Gate) (f : Function) → unmoved_by g f ≡ false → IsStateMoved tables old old_states new new_states g f
  one_moved g (State table k) h = same_value _ _ (not_false _ h)
  one_moved g (Logic fold inverted) h = tt
  one_moved g (FromTable table) h = tt

  moved_one : (g : Gate) (f : Function) → IsStateMoved tables old old_states new new_states g f → unmoved_by g f ≡ false
  moved_one g (State table k) h = ap not (same_by _ _ h)
  moved_one g (Logic fold inverted) h = refl
  moved_one g (FromTable table) h = refl

  moved_by : (gates : List Gate) → some unmoved gates ≡ false → AreStatesMoved tables old old_states new new_states gates
  moved_by [] h = tt
  moved_by (g ∷ gates) h = let r = neither _ _ h in (one_moved g g.function r.0, moved_by gates r.1)

  by_moved : (gates : List Gate) → AreStatesMoved tables old old_states new new_states gates → some unmoved gates ≡ false
  by_moved [] h = refl
  by_moved (g ∷ gates) h = nor_false _ _ (moved_one g g.function h.0) (by_moved gates h.1)

  pub moved_same : (a b : List Gate) → ((f : Gate → ℕ) → sum_by f a ≡ sum_by f b) → AreStatesMoved tables old old_states new new_states a → AreStatesMoved tables old old_states new new_states b
  moved_same a b h s = moved_by b (sym (same_some unmoved a b h) ∙ by_moved a s)
