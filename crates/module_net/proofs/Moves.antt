-- A module's network has one move at most to given pins.
use Rattle.std.proofs.Common.{◌≡◌, ℕ, zero, suc, ◌+◌, ◌<◌, ◌≤◌, ◌⊎◌, inl, inr, Bool, true, false, ◌&&◌, ◌||◌, eqb, eqb-true, cond, List, [], ◌∷◌, ◌++◌, length, map, take, Option, Some, None, refl, sym, ap, subst, ◌∙◌, arith}
use Rattle.std.specs.Prelude.{sum_by, is_some}
use Rattle.std.specs.List.{flat_map}
use Rattle.std.proofs.lemmas.List.{length-append, length-map}
use native.Mathlib.Decide.{dec_lt}
use Rattle.verilog_source.specs.declared.module.Module.{Module}
use Rattle.verilog_source.specs.declared.module.Element.{Element}
use Rattle.verilog_source.specs.declared.module.Terminal.{Terminal}
use Rattle.verilog_source.specs.declared.module.Terminal.TheVariants as terminals
use Rattle.tern_core.specs.declared.tern.Tern.{Tern}
use Rattle.udp_table.specs.Table.{Table}
use Rattle.gate_settle.specs.declared.gate.Operand.{Operand}
use Rattle.gate_settle.specs.declared.gate.Operand.TheVariants.{Net, Constant}
use Rattle.gate_settle.specs.declared.gate.Function.{Function}
use Rattle.gate_settle.specs.declared.gate.Function.TheVariants.{Logic, Table as FromTable, State}
use Rattle.gate_settle.specs.declared.gate.Gate.{Gate}
use Rattle.gate_settle.specs.Gates.{value_at, operand_value, function_value, gate_value, levels_of, is_among, is_driven}
use Rattle.gate_settle.specs.Order.{is_known, is_input, is_fed_by, DependsOn, directly, through}
use Rattle.gate_settle.specs.Settled.{AllHave, AreGatesSettled, next_state, IsStateMoved, AreStatesMoved, has_state, is_held}
use Rattle.gate_settle.specs.Network.{Network, given_value, given_values, IsMoveOf}
use Rattle.module_net.specs.declared.word.GateWord.{GateWord}
use Rattle.module_net.specs.Naming.{nets_of, place_in}
use Rattle.module_net.specs.Elements.{element_word, outputs_by, output_terminals, table_named, is_sequential, function_by, next_state_place, driven, gates_from, state_net_by, state_nets_of, used_in}
use Rattle.module_net.specs.Building.{NamedNetwork, IsNetOf, givens_of, gates_of}
use Rattle.module_net.proofs.Arranged.{some, same_some, is_same, same_value, same_by, either, and_true}
use Rattle.module_net.proofs.Rounds.{goes_round, within}

-- ---- gates in another order feed the same nets

fed_some : (gates : List Gate) (a b : ℕ) → is_fed_by gates a b ≡ some (λ g. is_among g.outputs a && is_input g.inputs b) gates
fed_some [] a b = refl
fed_some (g ∷ gates) a b = ap (λ v. is_among g.outputs a && is_input g.inputs b || v) (fed_some gates a b)

fed_arranged : (gates others : List Gate) → ((f : Gate → ℕ) → sum_by f gates ≡ sum_by f others) → (a b : ℕ) → is_fed_by gates a b ≡ is_fed_by others a b
fed_arranged gates others h a b = fed_some gates a b ∙ same_some (λ g. is_among g.outputs a && is_input g.inputs b) gates others h ∙ sym (fed_some others a b)

pub depends_arranged : (gates others : List Gate) → ((f : Gate → ℕ) → sum_by f gates ≡ sum_by f others) → (a b : ℕ) → DependsOn gates a b → DependsOn others a b
depends_arranged gates others h a b (directly f) = directly (sym (fed_arranged gates others h a b) ∙ f)
depends_arranged gates others h a b (through {b = c} f d) = through (sym (fed_arranged gates others h a c) ∙ f) (depends_arranged gates others h c b d)

-- ---- where two lists of values are the same

abbrev pub same_marks : List Tern → List Tern → List Bool
same_marks [] others = []
same_marks (v ∷ values) [] = []
same_marks (v ∷ values) (o ∷ others) = is_same v o ∷ same_marks values others

mark_at : (values others : List Tern) (k : ℕ) → length values ≡ length others → is_known (same_marks values others) k ≡ is_same (value_at values k) (value_at others k)
mark_at [] [] k h = refl
mark_at [] (o ∷ others) k h = absurd (omega arith)
mark_at (v ∷ values) [] k h = absurd (omega arith)
mark_at (v ∷ values) (o ∷ others) zero h = refl
mark_at (v ∷ values) (o ∷ others) (suc k) h = mark_at values others k (omega arith)

marks_long : (values others : List Tern) → length values ≡ length others → length (same_marks values others) ≡ length values
marks_long [] others h = refl
marks_long (v ∷ values) [] h = absurd (omega arith)
marks_long (v ∷ values) (o ∷ others) h = let r : length (same_marks values others) ≡ length values = marks_long values others (omega arith) in omega arith

pub equal_by : (values others : List Tern) → length values ≡ length others → ((k : ℕ) → k < length values → value_at values k ≡ value_at others k) → values ≡ others
equal_by [] [] h e = refl
equal_by [] (o ∷ others) h e = absurd (omega arith)
equal_by (v ∷ values) [] h e = absurd (omega arith)
equal_by (v ∷ values) (o ∷ others) h e =
    let first : v ≡ o = e 0 (omega arith) in
    let rest : values ≡ others = equal_by values others (omega arith) (λ k less. e (suc k) (omega arith)) in
    cc

-- two moves of a network from the same nets and states to the same pins are one
abbrev pub HasOneMove : Network → List Tern → List Tern → List Tern → Type 0
HasOneMove n pins old old_states = (nets states others other_states : List Tern) → IsMoveOf n pins old old_states nets states → IsMoveOf n pins old old_states others other_states
    → (nets ≡ others) × (states ≡ other_states)

module _ (tables : List Table) (old old_states nets states others other_states : List Tern) where
  -- one of the inputs differs, or all have the same values
  inputs_differ : (inputs : List Operand) → (map (operand_value nets) inputs ≡ map (operand_value others) inputs) ⊎ ((b : ℕ) × (is_input inputs b ≡ true) × (is_same (value_at nets b) (value_at others b) ≡ false))
  inputs_differ [] = inl refl
  inputs_differ (Constant v ∷ inputs) = elim (inputs_differ inputs) [
    | inl e ↦ inl (ap (λ z. v ∷ z) e)
    | inr d ↦ inr d
  ]
  inputs_differ (Net n ∷ inputs) = go (is_same (value_at nets n) (value_at others n)) refl (inputs_differ inputs)
    where
      self : (k : ℕ) → eqb k k ≡ true
      self k = grind arith

      more : (b : ℕ) → is_input inputs b ≡ true → (eqb n b || is_input inputs b) ≡ true
      more b h = go (eqb n b)
        where
          go : (c : Bool) → (c || is_input inputs b) ≡ true
          go true = refl
          go false = h

      go : (s : Bool) → is_same (value_at nets n) (value_at others n) ≡ s → (map (operand_value nets) inputs ≡ map (operand_value others) inputs) ⊎ ((b : ℕ) × (is_input inputs b ≡ true) × (is_same (value_at nets b) (value_at others b) ≡ false))
          → (map (operand_value nets) (Net n ∷ inputs) ≡ map (operand_value others) (Net n ∷ inputs)) ⊎ ((b : ℕ) × (is_input (Net n ∷ inputs) b ≡ true) × (is_same (value_at nets b) (value_at others b) ≡ false))
      go false e rest = inr (n, ap (λ c. c || is_input inputs n) (self n), e)
      go true e (inl f) = let v = same_value (value_at nets n) (value_at others n) e in inl (ap (λ z. z ∷ map (operand_value nets) inputs) v ∙ ap (λ z. value_at others n ∷ z) f)
      go true e (inr d) = inr (d.0, more d.0 d.1, d.2)

  -- a gate whose inputs have the same values gives the same
  gives_same : (g : Gate) (f : Function) → IsStateMoved tables old old_states nets states g f → IsStateMoved tables old old_states others other_states g f → levels_of nets g ≡ levels_of others g
      → function_value tables states f (levels_of nets g) ≡ function_value tables other_states f (levels_of others g)
  gives_same g (Logic fold inverted) h i e = ap (function_value tables states (Logic fold inverted)) e
  gives_same g (FromTable table) h i e = ap (function_value tables states (FromTable table)) e
  gives_same g (State table k) h i e = h ∙ ap (λ z. next_state tables table (levels_of old g) z (value_at old_states k)) e ∙ sym i

  has_value : (values : List Tern) (outputs : List ℕ) (k : ℕ) (v : Tern) → AllHave values outputs v → is_among outputs k ≡ true → value_at values k ≡ v
  has_value values [] k v h a = absurd cc
  has_value values (o ∷ outputs) k v h a = elim (either (eqb o k) (is_among outputs k) a) [
    | inl e ↦ subst (λ z. value_at values z ≡ v) (eqb-true o k e) h.0
    | inr e ↦ has_value values outputs k v h.1 e
  ]

  differs_not : (k : ℕ) → is_same (value_at nets k) (value_at others k) ≡ false → value_at nets k ≡ value_at others k → ⊥
  differs_not k d e = absurd (let f : true ≡ false = sym (same_by (value_at nets k) (value_at others k) e) ∙ d in cc)

  -- a net that a gate drives and that differs is fed by one that differs
  fed_by_one : (gates : List Gate) (k : ℕ) → AreGatesSettled tables states nets gates → AreGatesSettled tables other_states others gates
      → AreStatesMoved tables old old_states nets states gates → AreStatesMoved tables old old_states others other_states gates
      → is_driven gates k ≡ true → is_same (value_at nets k) (value_at others k) ≡ false → (b : ℕ) × (is_fed_by gates k b ≡ true) × (is_same (value_at nets b) (value_at others b) ≡ false)
  fed_by_one [] k s t u v d n = absurd cc
  fed_by_one (g ∷ gates) k s t u v d n = elim (either (is_among g.outputs k) (is_driven gates k) d) [
    | inl a ↦ elim (inputs_differ g.inputs) [
      | inl e ↦
          absurd (differs_not k n (
          has_value nets g.outputs k (gate_value tables states nets g) s.0 a
          ∙ gives_same g g.function u.0 v.0 e
          ∙ sym (has_value others g.outputs k (gate_value tables other_states others g) t.0 a)))
      | inr b ↦ (b.0, left_true (is_among g.outputs k && is_input g.inputs b.0) (is_fed_by gates k b.0) (and_true _ _ a b.1), b.2)
    ]
    | inr a ↦
        let b = fed_by_one gates k s.1 t.1 u.1 v.1 a n in
        (b.0, right_true (is_among g.outputs k && is_input g.inputs b.0) (is_fed_by gates k b.0) b.1, b.2)
  ]
    where
      left_true : (a b : Bool) → a ≡ true → (a || b) ≡ true
      left_true true b h = refl
      left_true false b h = absurd cc

      right_true : (a b : Bool) → b ≡ true → (a || b) ≡ true
      right_true true b h = refl
      right_true false b h = h

module _ (n : Network) (pins old old_states nets states others other_states : List Tern) (one : IsMoveOf n pins old old_states nets states) (two : IsMoveOf n pins old old_states others other_states) where
  long : length nets ≡ length others
  long = one.settled.count ∙ sym two.settled.count

  goes : (a : ℕ) → is_known (same_marks nets others) a ≡ false → (b : ℕ) × (is_fed_by n.gates a b ≡ true) × (is_known (same_marks nets others) b ≡ false)
  goes a h = go (is_driven n.gates a) refl
    where
      apart : is_same (value_at nets a) (value_at others a) ≡ false
      apart = sym (mark_at nets others a long) ∙ h

      go : (d : Bool) → is_driven n.gates a ≡ d → (b : ℕ) × (is_fed_by n.gates a b ≡ true) × (is_known (same_marks nets others) b ≡ false)
      go false d = absurd (differs_not n.tables old old_states nets states others other_states a apart (one.settled.free a d ∙ sym (two.settled.free a d)))
      go true d =
          let b = fed_by_one n.tables old old_states nets states others other_states n.gates a one.settled.driven two.settled.driven one.states two.states d apart in
          (b.0, b.1, mark_at nets others b.0 long ∙ b.2)

  pub one_nets : ((k : ℕ) → k < length nets → DependsOn n.gates k k → ⊥) → nets ≡ others
  one_nets none = equal_by nets others long (λ k less. here k (is_known (same_marks nets others) k) refl)
    where
      here : (k : ℕ) (s : Bool) → is_known (same_marks nets others) k ≡ s → value_at nets k ≡ value_at others k
      here k true e = same_value (value_at nets k) (value_at others k) (sym (mark_at nets others k long) ∙ e)
      here k false e =
          let r = goes_round n.gates (same_marks nets others) goes k e in
          let l = marks_long nets others long in
          let w = within (same_marks nets others) r.0 r.1 in
          let b : r.0 < length nets = omega arith in
          absurd (none r.0 b r.2)

  -- a state that some gate holds
  held_same : nets ≡ others → (gates : List Gate) (k : ℕ) → AreStatesMoved n.tables old old_states nets states gates → AreStatesMoved n.tables old old_states others other_states gates → is_held gates k ≡ true
      → value_at states k ≡ value_at other_states k
  held_same e [] k s t h = absurd cc
  held_same e (g ∷ gates) k s t h = elim (either (has_state g.function k) (is_held gates k) h) [
    | inl f ↦ by_function g.function s.0 t.0 f
    | inr f ↦ held_same e gates k s.1 t.1 f
  ]
    where
      by_function : (f : Function) → IsStateMoved n.tables old old_states nets states g f → IsStateMoved n.tables old old_states others other_states g f → has_state f k ≡ true → value_at states k ≡ value_at other_states k
      by_function (Logic fold inverted) s t f = absurd (let x : false ≡ true = f in cc)
      by_function (FromTable table) s t f = absurd (let x : false ≡ true = f in cc)
      by_function (State table j) s t f =
          let same : value_at states j ≡ value_at other_states j = s ∙ ap (λ z. next_state n.tables table (levels_of old g) (levels_of z g) (value_at old_states j)) e ∙ sym t in
          subst (λ z. value_at states z ≡ value_at other_states z) (eqb-true j k f) same

  pub one_states : nets ≡ others → ((k : ℕ) → k < length states → is_held n.gates k ≡ true) → states ≡ other_states
  one_states e held = equal_by states other_states (one.count ∙ sym two.count) (λ k less. held_same e n.gates k one.states two.states (held k less))

held_some : (gates : List Gate) (k : ℕ) → is_held gates k ≡ some (λ g. has_state g.function k) gates
held_some [] k = refl
held_some (g ∷ gates) k = ap (λ v. has_state g.function k || v) (held_some gates k)

pub held_arranged : (gates others : List Gate) → ((f : Gate → ℕ) → sum_by f gates ≡ sum_by f others) → (k : ℕ) → is_held gates k ≡ is_held others k
held_arranged gates others h k = held_some gates k ∙ same_some (λ g. has_state g.function k) gates others h ∙ sym (held_some others k)

-- ---- each state of a module has an element

one_at_most : (names : List (List ℕ)) (ts : List Terminal) → length (flat_map (driven names) (take 1 ts)) ≤ 1
one_at_most names [] = omega arith
one_at_most names (terminals.Net n ∷ ts) = omega arith
one_at_most names (terminals.Constant v ∷ ts) = omega arith

-- a state that is counted among these elements' is held by one of them
held_from : (tables : List Table) (used names : List (List ℕ)) (place k : ℕ) (es : List Element) (j : ℕ) → k ≤ j → j < k + length (state_nets_of tables names es) → is_held (gates_from tables used names place k es) j ≡ true
held_from tables used names place k [] j low high = absurd (omega arith)
held_from tables used names place k (e ∷ es) j low high =
    go (element_word e) (is_sequential (table_named tables e.kind)) refl high (held_from tables used names (place + 1) k es j low) (held_from tables used names (place + 1) (k + 1) es j)
  where
    later : (a b : Bool) → b ≡ true → (a || b) ≡ true
    later true b h = refl
    later false b h = h

    here : (a b : Bool) → a ≡ true → (a || b) ≡ true
    here true b h = refl
    here false b h = absurd cc

    eqb_of : (a b : ℕ) → a ≡ b → eqb a b ≡ true
    eqb_of a b e = grind (arith, e)

    go : (w : Option GateWord) (s : Bool) → element_word e ≡ w → j < k + length (state_net_by (cond (is_some w) false s) names e ++ state_nets_of tables names es)
        → (j < k + length (state_nets_of tables names es) → is_held (gates_from tables used names (place + 1) k es) j ≡ true)
        → (k + 1 ≤ j → j < k + 1 + length (state_nets_of tables names es) → is_held (gates_from tables used names (place + 1) (k + 1) es) j ≡ true)
        → (has_state (function_by w (cond (is_some w) false s) (place_in used e.kind) k) j || is_held (gates_from tables used names (place + 1) (next_state_place (cond (is_some w) false s) k) es) j) ≡ true
    go (Some w) s word high same next = same high
    go None false word high same next = same high
    go None true word high same next =
        let few : length (flat_map (driven names) (output_terminals e)) ≤ 1 = subst (λ v. length (flat_map (driven names) (take (outputs_by v (length e.terminals)) e.terminals)) ≤ 1) (sym word) (one_at_most names e.terminals) in
        let sum = length-append (flat_map (driven names) (output_terminals e)) (state_nets_of tables names es) in
        elim (dec_lt k j) [
          | yes less ↦ later (eqb k j) (is_held (gates_from tables used names (place + 1) (k + 1) es) j) (next (omega arith) (omega arith))
          | no more ↦ here (eqb k j) (is_held (gates_from tables used names (place + 1) (k + 1) es) j) (eqb_of k j (let f : k ≡ j = omega arith in f))
        ]

module _ (m : Module) (tables : List Table) (inputs : List (List ℕ)) (supplies : List (List ℕ × Tern)) (net : NamedNetwork) (is : IsNetOf m tables inputs supplies net) where
  same : (f : Gate → ℕ) → sum_by f net.network.gates ≡ sum_by f (gates_of m tables)
  same = is.connected.same_gates

  pub one_move : (pins old old_states : List Tern) → length old_states ≡ length net.network.state_nets → HasOneMove net.network pins old old_states
  one_move pins old old_states count nets states others other_states one two =
      let e = one_nets net.network pins old old_states nets states others other_states one two (λ k less d.
      let long : length nets ≡ length (given_values net.network.given pins) = one.settled.count in
      let given : length (given_values net.network.given pins) ≡ length net.network.given = length-map net.network.given (given_value pins) in
      let of_module : length net.network.given ≡ length (givens_of m inputs supplies) = ap length is.connected.same_given in
      is.connected.no_loop k (omega arith) (depends_arranged net.network.gates (gates_of m tables) same k k d)) in (
        e,
        one_states net.network pins old old_states nets states others other_states one two e (λ k less.
            let a : length states ≡ length old_states = one.count in
            let b : length net.network.state_nets ≡ length (state_nets_of tables (nets_of m) m.elements) = ap length is.connected.same_states in
            held_arranged net.network.gates (gates_of m tables) same k ∙ held_from tables (used_in m.elements) (nets_of m) 0 0 m.elements k (omega arith) (omega arith)),
      )
