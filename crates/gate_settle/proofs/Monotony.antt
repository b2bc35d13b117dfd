-- The settled assignment is monotone in pins and states, where the tables are.
use Rattle.std.proofs.Common.{◌≡◌, ℕ, zero, suc, Bool, true, false, List, [], ◌∷◌, length, map, refl, sym, ap, subst, ◌∙◌, arith}
use Rattle.std.specs.Prelude.{◌==◌, ◌&&◌, ◌||◌}
use Rattle.tern_core.specs.declared.tern.Tern.{Tern}
use Rattle.tern_core.specs.declared.tern.Tern.TheVariants.{Zero, One, Unknown}
use Rattle.tern_core.specs.Values.{not_of, and_of, or_of, xor_of}
use Rattle.tern_core.specs.Order.{IsAtMost, AreAtMost}
use Rattle.tern_core.proofs.Lists.{same, through}
use Rattle.udp_table.specs.Table.{Table}
use Rattle.gate_settle.specs.declared.gate.Operand.{Operand}
use Rattle.gate_settle.specs.declared.gate.Operand.TheVariants.{Net, Constant}
use Rattle.gate_settle.specs.declared.gate.Fold.{Fold}
use Rattle.gate_settle.specs.declared.gate.Fold.TheVariants.{And, Or, Xor}
use Rattle.gate_settle.specs.declared.gate.Function.{Function}
use Rattle.gate_settle.specs.declared.gate.Function.TheVariants.{Logic, Table as FromTable, State}
use Rattle.gate_settle.specs.declared.gate.Gate.{Gate}
use Rattle.gate_settle.specs.declared.gate.Given.{Given}
use Rattle.gate_settle.specs.declared.gate.Given.TheVariants.{Pin, Fixed, Floating}
use Rattle.gate_settle.specs.Gates.{value_at, operand_value, conjunction, disjunction, parity, folded, inverted_if, function_value, gate_value, is_among, is_driven}
use Rattle.gate_settle.specs.Order.{is_known, marked, all_known, all_unknown, is_ordered}
use Rattle.gate_settle.specs.Settled.{AllHave, AreGatesSettled}
use Rattle.gate_settle.specs.Network.{given_value, given_values, AreMonotone}
use Rattle.gate_settle.proofs.Loops.{marked_other}
use Rattle.gate_settle.proofs.Settling.{both, same_of, known_apart}

-- ---- values

pub value_up : (xs ys : List Tern) (k : ℕ) → AreAtMost xs ys → IsAtMost (value_at xs k) (value_at ys k)
value_up [] [] k h = tt
value_up (x ∷ xs) (y ∷ ys) zero h = h.0
value_up (x ∷ xs) (y ∷ ys) (suc k) h = value_up xs ys k h.1
value_up [] (y ∷ ys) k h = absurd h
value_up (x ∷ xs) [] k h = absurd h

all_up : (xs ys : List Tern) → length xs ≡ length ys → ((k : ℕ) → IsAtMost (value_at xs k) (value_at ys k)) → AreAtMost xs ys
all_up [] [] e h = tt
all_up (x ∷ xs) (y ∷ ys) e h = (h 0, all_up xs ys (omega arith) (λ k. h (suc k)))
all_up [] (y ∷ ys) e h = absurd (omega arith)
all_up (x ∷ xs) [] e h = absurd (omega arith)

-- an operation is monotone in both places where it is in each, from X
up : (op : Tern → Tern → Tern) → ((b c : Tern) → IsAtMost (op Unknown c) (op b c)) → ((b d : Tern) → IsAtMost (op b Unknown) (op b d)) → (a b c d : Tern) → IsAtMost a b → IsAtMost c d → IsAtMost (op a c) (op b d)
up op l r Unknown b Unknown d h k = through (op Unknown Unknown) (op b Unknown) (op b d) (l b Unknown) (r b d)
up op l r Unknown b Zero d h k = subst (λ z. IsAtMost (op Unknown Zero) (op b z)) k (l b Zero)
up op l r Unknown b One d h k = subst (λ z. IsAtMost (op Unknown One) (op b z)) k (l b One)
up op l r Zero b Unknown d h k = subst (λ z. IsAtMost (op Zero Unknown) (op z d)) h (r Zero d)
up op l r One b Unknown d h k = subst (λ z. IsAtMost (op One Unknown) (op z d)) h (r One d)
up op l r Zero b Zero d h k = subst (λ z. IsAtMost (op Zero Zero) (op z d)) h (subst (λ z. IsAtMost (op Zero Zero) (op Zero z)) k (same (op Zero Zero)))
up op l r Zero b One d h k = subst (λ z. IsAtMost (op Zero One) (op z d)) h (subst (λ z. IsAtMost (op Zero One) (op Zero z)) k (same (op Zero One)))
up op l r One b Zero d h k = subst (λ z. IsAtMost (op One Zero) (op z d)) h (subst (λ z. IsAtMost (op One Zero) (op One z)) k (same (op One Zero)))
up op l r One b One d h k = subst (λ z. IsAtMost (op One One) (op z d)) h (subst (λ z. IsAtMost (op One One) (op One z)) k (same (op One One)))

and_left : (b c : Tern) → IsAtMost (and_of Unknown c) (and_of b c)
and_left Zero Zero = refl
and_left One Zero = refl
and_left Unknown Zero = refl
and_left b One = tt
and_left b Unknown = tt

and_right : (b d : Tern) → IsAtMost (and_of b Unknown) (and_of b d)
and_right Zero d = refl
and_right One d = tt
and_right Unknown d = tt

or_left : (b c : Tern) → IsAtMost (or_of Unknown c) (or_of b c)
or_left Zero One = refl
or_left One One = refl
or_left Unknown One = refl
or_left b Zero = tt
or_left b Unknown = tt

or_right : (b d : Tern) → IsAtMost (or_of b Unknown) (or_of b d)
or_right Zero d = tt
or_right One d = refl
or_right Unknown d = tt

xor_left : (b c : Tern) → IsAtMost (xor_of Unknown c) (xor_of b c)
xor_left b c = tt

xor_right : (b d : Tern) → IsAtMost (xor_of b Unknown) (xor_of b d)
xor_right Zero d = tt
xor_right One d = tt
xor_right Unknown d = tt

not_up : (a b : Tern) → IsAtMost a b → IsAtMost (not_of a) (not_of b)
not_up Zero b h = ap not_of h
not_up One b h = ap not_of h
not_up Unknown b h = tt

conjunction_up : (xs ys : List Tern) → AreAtMost xs ys → IsAtMost (conjunction xs) (conjunction ys)
conjunction_up [] [] h = refl
conjunction_up (x ∷ xs) (y ∷ ys) h = up and_of and_left and_right x y (conjunction xs) (conjunction ys) h.0 (conjunction_up xs ys h.1)
conjunction_up [] (y ∷ ys) h = absurd h
conjunction_up (x ∷ xs) [] h = absurd h

disjunction_up : (xs ys : List Tern) → AreAtMost xs ys → IsAtMost (disjunction xs) (disjunction ys)
disjunction_up [] [] h = refl
disjunction_up (x ∷ xs) (y ∷ ys) h = up or_of or_left or_right x y (disjunction xs) (disjunction ys) h.0 (disjunction_up xs ys h.1)
disjunction_up [] (y ∷ ys) h = absurd h
disjunction_up (x ∷ xs) [] h = absurd h

parity_up : (xs ys : List Tern) → AreAtMost xs ys → IsAtMost (parity xs) (parity ys)
parity_up [] [] h = refl
parity_up (x ∷ xs) (y ∷ ys) h = up xor_of xor_left xor_right x y (parity xs) (parity ys) h.0 (parity_up xs ys h.1)
parity_up [] (y ∷ ys) h = absurd h
parity_up (x ∷ xs) [] h = absurd h

folded_up : (fold : Fold) (xs ys : List Tern) → AreAtMost xs ys → IsAtMost (folded fold xs) (folded fold ys)
folded_up And xs ys h = conjunction_up xs ys h
folded_up Or xs ys h = disjunction_up xs ys h
folded_up Xor xs ys h = parity_up xs ys h

inverted_up : (inverted : Bool) (a b : Tern) → IsAtMost a b → IsAtMost (inverted_if inverted a) (inverted_if inverted b)
inverted_up true a b h = not_up a b h
inverted_up false a b h = h

function_up : (tables : List Table) (states more_states : List Tern) (f : Function) (xs ys : List Tern) → AreMonotone tables → AreAtMost states more_states → AreAtMost xs ys
    → IsAtMost (function_value tables states f xs) (function_value tables more_states f ys)
function_up tables states more_states (Logic fold inverted) xs ys m s h = inverted_up inverted (folded fold xs) (folded fold ys) (folded_up fold xs ys h)
function_up tables states more_states (FromTable table) xs ys m s h = m table xs ys h
function_up tables states more_states (State table state) xs ys m s h = value_up states more_states state s

given_up : (pins more_pins : List Tern) (g : Given) → AreAtMost pins more_pins → IsAtMost (given_value pins g) (given_value more_pins g)
given_up pins more_pins (Pin k) h = value_up pins more_pins k h
given_up pins more_pins (Fixed v) h = same v
given_up pins more_pins Floating h = tt

pub givens_up : (pins more_pins : List Tern) (given : List Given) → AreAtMost pins more_pins → AreAtMost (given_values given pins) (given_values given more_pins)
givens_up pins more_pins [] h = tt
givens_up pins more_pins (g ∷ given) h = (given_up pins more_pins g h, givens_up pins more_pins given h)

-- ---- gate after gate

module _ (tables : List Table) (states more_states a b : List Tern) (m : AreMonotone tables) (s : AreAtMost states more_states) where
  levels_up : (known : List Bool) (inputs : List Operand) → ((k : ℕ) → is_known known k ≡ true → IsAtMost (value_at a k) (value_at b k)) → all_known known inputs ≡ true → AreAtMost (map (operand_value a) inputs) (map (operand_value b) inputs)
  levels_up known [] h u = tt
  levels_up known (Net k ∷ inputs) h u = let i = both (is_known known k) (all_known known inputs) u in (h k i.0, levels_up known inputs h i.1)
  levels_up known (Constant v ∷ inputs) h u = (same v, levels_up known inputs h u)

  have_up : (os : List ℕ) (v w : Tern) → AllHave a os v → AllHave b os w → IsAtMost v w → (k : ℕ) → is_among os k ≡ true → IsAtMost (value_at a k) (value_at b k)
  have_up [] v w h l le k e = absurd (cc)
  have_up (o ∷ os) v w h l le k e =
      elim (o == k) as (λ z. (o == k) ≡ z → IsAtMost (value_at a k) (value_at b k)) [
        | true ↦ λ f. subst (λ n. IsAtMost (value_at a n) (value_at b n)) (same_of o k f) (subst (λ z. IsAtMost z (value_at b o)) (sym h.0) (subst (λ z. IsAtMost v z) (sym l.0) le))
        | false ↦ λ f. have_up os v w h.1 l.1 le k (sym (ap (λ z. z || is_among os k) f) ∙ e)
      ] refl

  driven_up : (known : List Bool) (gates : List Gate) → is_ordered known gates ≡ true → AreGatesSettled tables states a gates → AreGatesSettled tables more_states b gates
      → ((k : ℕ) → is_known known k ≡ true → IsAtMost (value_at a k) (value_at b k)) → (k : ℕ) → is_driven gates k ≡ true → IsAtMost (value_at a k) (value_at b k)
  driven_up known [] o x y h k d = absurd (cc)
  driven_up known (g ∷ gates) o x y h k d =
      let i = both (all_known known g.inputs) (all_unknown known g.outputs && is_ordered (marked g.outputs true known) gates) o in
      let j = both (all_unknown known g.outputs) (is_ordered (marked g.outputs true known) gates) i.1 in
      let le : IsAtMost (gate_value tables states a g) (gate_value tables more_states b g) = function_up tables states more_states g.function (map (operand_value a) g.inputs) (map (operand_value b) g.inputs) m s (levels_up known g.inputs h i.0) in
      let here : (k : ℕ) → is_among g.outputs k ≡ true → IsAtMost (value_at a k) (value_at b k) = have_up g.outputs (gate_value tables states a g) (gate_value tables more_states b g) x.0 y.0 le in
      elim (is_among g.outputs k) as (λ z. is_among g.outputs k ≡ z → IsAtMost (value_at a k) (value_at b k)) [
        | true ↦ λ f. here k f
        | false ↦ λ f. driven_up (marked g.outputs true known) gates j.1 x.1 y.1 (λ n u.
            elim (is_among g.outputs n) as (λ z. is_among g.outputs n ≡ z → IsAtMost (value_at a n) (value_at b n)) [
              | true ↦ λ e. here n e
              | false ↦ λ e. h n (sym (marked_other g.outputs true known n e) ∙ u)
            ] refl) k (sym (ap (λ z. z || is_driven gates k) f) ∙ d)
      ] refl

  pub settled_up : (known : List Bool) (gates : List Gate) (first more_first : List Tern) → is_ordered known gates ≡ true → AreAtMost first more_first
      → ((k : ℕ) → is_driven gates k ≡ false → value_at a k ≡ value_at first k) → ((k : ℕ) → is_driven gates k ≡ false → value_at b k ≡ value_at more_first k)
      → AreGatesSettled tables states a gates → AreGatesSettled tables more_states b gates → length a ≡ length b → AreAtMost a b
  settled_up known gates first more_first o le x y c d e =
      let free : (k : ℕ) → is_driven gates k ≡ false → IsAtMost (value_at a k) (value_at b k) = λ k f. subst (λ z. IsAtMost z (value_at b k)) (sym (x k f)) (subst (λ z. IsAtMost (value_at first k) z) (sym (y k f)) (value_up first more_first k le)) in
      all_up a b e (λ k. elim (is_driven gates k) as (λ z. is_driven gates k ≡ z → IsAtMost (value_at a k) (value_at b k)) [
        | true ↦ λ f. driven_up known gates o c d (λ n u. free n (known_apart known gates n o u)) k f
        | false ↦ λ f. free k f
      ] refl)
