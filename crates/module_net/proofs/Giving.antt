-- A network's gates say of the nets what the module's elements say by their names.
use Rattle.std.proofs.Common.{◌≡◌, ℕ, zero, suc, ◌+◌, Bool, true, false, cond, ◌||◌, ◌&&◌, eqb, eqb-true, List, [], ◌∷◌, ◌++◌, length, map, take, drop, Option, Some, None, refl, sym, ap, subst, ◌∙◌, arith, length-drop}
use Rattle.std.specs.Prelude.{is_some, not, slice_get}
use Rattle.std.specs.List.{flat_map, list_any}
use Rattle.std.specs.Str.{bytes_eq}
use Rattle.std.proofs.lemmas.List.{length-map}
use Rattle.std.proofs.lemmas.Grind.{common_steps}
use Rattle.tern_core.specs.declared.tern.Tern.{Tern}
use Rattle.tern_core.specs.declared.tern.Tern.TheVariants.{Unknown}
use Rattle.verilog_source.specs.declared.module.Element.{Element}
use Rattle.verilog_source.specs.declared.module.Terminal.{Terminal}
use Rattle.verilog_source.specs.declared.module.Terminal.TheVariants as terminals
use Rattle.udp_table.specs.Table.{Table}
use Rattle.udp_table.specs.Answers.{level_of}
use Rattle.udp_table.specs.Orders.{change_of}
use Rattle.gate_settle.specs.declared.gate.Operand.{Operand}
use Rattle.gate_settle.specs.Gates.{value_at, operand_value, function_value, gate_value, level_by, is_among, is_driven, levels_of}
use Rattle.gate_settle.specs.Settled.{AllHave, AreGatesSettled, state_by, next_state, IsStateMoved, AreStatesMoved}
use Rattle.name_index.specs.Places.{is_known}
use Rattle.module_net.specs.declared.word.GateWord.{GateWord}
use Rattle.module_net.specs.Naming.{firsts, terminal_names, element_names, place_in}
use Rattle.module_net.specs.Elements.{element_word, outputs_by, output_terminals, input_terminals, table_named, port_count, refused_primitive, refused_by, refused_element, first_refused, primitive_name, used_in, table_list, tables_of, is_sequential, holds_state, primitive_function, function_by, operand, driven, gate_of, next_state_place, gates_from}
use Rattle.module_net.specs.Meaning.{value_named, terminal_value, input_values, answer_by, element_value, NetsHave, ElementsGive, is_of, is_output, changed_by, HasMoved, StatesMove}
use Rattle.module_net.proofs.Built.{AllKnown, all_known, known_parts, element_known, none_first, counted}
use Rattle.module_net.proofs.Named.{stands, same_place}

-- ---- the tables of the primitives that are used

abbrev pub AreFound : List Table → List (List ℕ) → Type 0
AreFound tables [] = Unit {0}
AreFound tables (n ∷ names) = (is_some (table_named tables n) ≡ true) × AreFound tables names

found_firsts : (tables : List Table) (known names : List (List ℕ)) → AreFound tables names → AreFound tables (firsts known names)
found_firsts tables known [] f = tt
found_firsts tables known (n ∷ names) f = go (is_known n known) (found_firsts tables known names f.1) (found_firsts tables (known ++ n ∷ []) names f.1)
  where
    go : (b : Bool) → AreFound tables (firsts known names) → AreFound tables (firsts (known ++ n ∷ []) names) → AreFound tables (cond b (firsts known names) (n ∷ firsts (known ++ n ∷ []) names))
    go true old new = old
    go false old new = (f.0, new)

found_one : (o : Option Table) (e : Element) → refused_primitive o e ≡ None → is_some o ≡ true
found_one (Some t) e h = refl
found_one None e h = absurd cc

found_names : (tables : List Table) (es : List Element) → first_refused tables es ≡ None → AreFound tables (flat_map primitive_name es)
found_names tables [] h = tt
found_names tables (e ∷ es) h =
    let parts = none_first (refused_element tables e) (first_refused tables es) h in
    go (element_word e) parts.0 (found_names tables es parts.1)
  where
    go : (w : Option GateWord) → refused_by w tables e ≡ None → AreFound tables (flat_map primitive_name es) → AreFound tables (cond (is_some w) [] (e.kind ∷ []) ++ flat_map primitive_name es)
    go (Some w) r f = f
    go None r f = (found_one (table_named tables e.kind) e r, f)

pub found_used : (tables : List Table) (es : List Element) → first_refused tables es ≡ None → AreFound tables (used_in es)
found_used tables es h = found_firsts tables [] (flat_map primitive_name es) (found_names tables es h)

-- the table stands where its name does
table_at : (tables : List Table) (used : List (List ℕ)) (k : ℕ) (n : List ℕ) → AreFound tables used → slice_get used k ≡ Some n → slice_get (tables_of tables used) k ≡ table_named tables n
table_at tables [] k n f h = absurd cc
table_at tables (u ∷ used) zero n f h = go (table_named tables u) refl f.0
  where
    same : u ≡ n
    same = cc

    go : (o : Option Table) → table_named tables u ≡ o → is_some o ≡ true → slice_get (table_list o ++ tables_of tables used) 0 ≡ table_named tables n
    go (Some t) e s = sym e ∙ ap (table_named tables) same
    go None e s = absurd cc
table_at tables (u ∷ used) (suc k) n f h = go (table_named tables u) f.0 (table_at tables used k n f.1 h)
  where
    go : (o : Option Table) → is_some o ≡ true → slice_get (tables_of tables used) k ≡ table_named tables n → slice_get (table_list o ++ tables_of tables used) (suc k) ≡ table_named tables n
    go (Some t) s rest = rest
    go None s rest = absurd cc

table_in : (tables : List Table) (used : List (List ℕ)) (n : List ℕ) → AreFound tables used → is_known n used ≡ true → slice_get (tables_of tables used) (place_in used n) ≡ table_named tables n
table_in tables used n f k = table_at tables used (place_in used n) n f (stands used n k)

pub used_known : (es : List Element) → AllKnown (used_in es) (flat_map primitive_name es)
used_known es = all_known [] (flat_map primitive_name es)

-- ---- terminals

operands_value : (names : List (List ℕ)) (nets : List Tern) (ts : List Terminal) → map (operand_value nets) (map (operand names) ts) ≡ map (terminal_value names nets) ts
operands_value names nets [] = refl
operands_value names nets (terminals.Net n ∷ ts) = ap (λ z. value_named names nets n ∷ z) (operands_value names nets ts)
operands_value names nets (terminals.Constant v ∷ ts) = ap (λ z. v ∷ z) (operands_value names nets ts)

nets_have : (names : List (List ℕ)) (nets : List Tern) (v : Tern) (ts : List Terminal) → AllHave nets (flat_map (driven names) ts) v → NetsHave names nets v ts
nets_have names nets v [] h = tt
nets_have names nets v (terminals.Net n ∷ ts) h = (h.0, nets_have names nets v ts h.1)
nets_have names nets v (terminals.Constant c ∷ ts) h = nets_have names nets v ts h

have_nets : (names : List (List ℕ)) (nets : List Tern) (v : Tern) (ts : List Terminal) → NetsHave names nets v ts → AllHave nets (flat_map (driven names) ts) v
have_nets names nets v [] h = tt
have_nets names nets v (terminals.Net n ∷ ts) h = (h.0, have_nets names nets v ts h.1)
have_nets names nets v (terminals.Constant c ∷ ts) h = have_nets names nets v ts h

-- ---- what gates give

eqb_by : (a b : ℕ) → a ≡ b → eqb a b ≡ true
eqb_by a b e = grind (arith, common_steps, e)

-- a primitive's inputs are as many as its table's
fits : (t : Table) (e : Element) (f : Terminal → Tern) → port_count (eqb (length e.terminals) (t.inputs + 1)) e ≡ None → t.inputs ≡ length (map f (drop 1 e.terminals))
fits t e f h =
    let n : length e.terminals ≡ t.inputs + 1 = eqb-true (length e.terminals) (t.inputs + 1) (counted e (eqb (length e.terminals) (t.inputs + 1)) h) in
    let m = length-map (drop 1 e.terminals) f in
    let d = length-drop 1 e.terminals in
    omega (arith, n, m, d)

level_answer : (t : Table) (levels : List Tern) → t.sequential ≡ false → t.inputs ≡ length levels → level_by (Some t) levels ≡ level_of t.rows levels
level_answer t levels s n = ap (λ b. cond b (level_of t.rows levels) Unknown) (ap (λ b. not b && eqb t.inputs (length levels)) s ∙ eqb_by t.inputs (length levels) n)

state_answer : (t : Table) (old new : List Tern) (state : Tern) → t.sequential ≡ true → t.inputs ≡ length new → state_by (Some t) old new state ≡ change_of t.rows old new state
state_answer t old new state s n = ap (λ b. cond b (change_of t.rows old new state) Unknown) (ap (λ b. b && eqb t.inputs (length new)) s ∙ eqb_by t.inputs (length new) n)

module _ (tables : List Table) (used names : List (List ℕ)) (found : AreFound tables used) where
  -- the primitive's table, where the element's word is no gate's
  word_known : (w : Option GateWord) (e : Element) → w ≡ None → AllKnown used (cond (is_some w) [] (e.kind ∷ [])) → slice_get (tables_of tables used) (place_in used e.kind) ≡ table_named tables e.kind
  word_known None e h k = table_in tables used e.kind found k.0
  word_known (Some w) e h k = absurd cc

  value_by : (states : List Tern) (k : ℕ) (e : Element) (f : Terminal → Tern) (w : Option GateWord) → refused_by w tables e ≡ None → AllKnown used (cond (is_some w) [] (e.kind ∷ []))
      → function_value (tables_of tables used) states (function_by w (cond (is_some w) false (is_sequential (table_named tables e.kind))) (place_in used e.kind) k) (map f (drop (outputs_by w (length e.terminals)) e.terminals))
      ≡ answer_by w (table_named tables e.kind) (value_at states k) (map f (drop (outputs_by w (length e.terminals)) e.terminals))
  value_by states k e f (Some w) r a = refl
  value_by states k e f None r a = by_table (table_named tables e.kind) r (word_known None e refl a)
    where
      levels : List Tern
      levels = map f (drop 1 e.terminals)

      by_table : (o : Option Table) → refused_primitive o e ≡ None → slice_get (tables_of tables used) (place_in used e.kind) ≡ o
          → function_value (tables_of tables used) states (primitive_function (is_sequential o) (place_in used e.kind) k) levels ≡ answer_by None o (value_at states k) levels
      by_table None r g = absurd cc
      by_table (Some t) r g = go t.sequential refl
        where
          go : (s : Bool) → t.sequential ≡ s → function_value (tables_of tables used) states (primitive_function s (place_in used e.kind) k) levels ≡ cond s (value_at states k) (level_of t.rows levels)
          go true s = refl
          go false s = ap (λ o. level_by o levels) g ∙ level_answer t levels s (fits t e f r)

  gate_gives : (nets states : List Tern) (place k : ℕ) (e : Element) → refused_element tables e ≡ None → AllKnown used (primitive_name e)
      → gate_value (tables_of tables used) states nets (gate_of tables used names place k e) ≡ element_value tables names nets (value_at states k) e
  gate_gives nets states place k e r a =
      ap (function_value (tables_of tables used) states (function_by (element_word e) (holds_state tables e) (place_in used e.kind) k)) (operands_value names nets (input_terminals e))
      ∙ value_by states k e (terminal_value names nets) (element_word e) r a

  pub elements_give : (nets states : List Tern) (place k : ℕ) (es : List Element) → first_refused tables es ≡ None → AllKnown used (flat_map primitive_name es)
      → AreGatesSettled (tables_of tables used) states nets (gates_from tables used names place k es) → ElementsGive tables names states nets k es
  elements_give nets states place k [] r a h = tt
  elements_give nets states place k (e ∷ es) r a h =
      let parts = none_first (refused_element tables e) (first_refused tables es) r in
      let known = known_parts used (primitive_name e) (flat_map primitive_name es) a in (
        nets_have names nets _ (output_terminals e) (subst (AllHave nets (flat_map (driven names) (output_terminals e))) (gate_gives nets states place k e parts.0 known.0) h.0),
        elements_give nets states (place + 1) (next_state_place (holds_state tables e) k) es parts.1 known.1 h.1,
      )

  pub give_elements : (nets states : List Tern) (place k : ℕ) (es : List Element) → first_refused tables es ≡ None → AllKnown used (flat_map primitive_name es)
      → ElementsGive tables names states nets k es → AreGatesSettled (tables_of tables used) states nets (gates_from tables used names place k es)
  give_elements nets states place k [] r a h = tt
  give_elements nets states place k (e ∷ es) r a h =
      let parts = none_first (refused_element tables e) (first_refused tables es) r in
      let known = known_parts used (primitive_name e) (flat_map primitive_name es) a in (
        subst (AllHave nets (flat_map (driven names) (output_terminals e))) (sym (gate_gives nets states place k e parts.0 known.0)) (have_nets names nets _ (output_terminals e) h.0),
        give_elements nets states (place + 1) (next_state_place (holds_state tables e) k) es parts.1 known.1 h.1,
      )

  -- ---- moved states

  module _ (old old_states new new_states : List Tern) where
    change_same : (o : Option Table) (e : Element) (state : Tern) → refused_primitive o e ≡ None → is_sequential o ≡ true
        → state_by o (map (terminal_value names old) (drop 1 e.terminals)) (map (terminal_value names new) (drop 1 e.terminals)) state ≡ changed_by o (map (terminal_value names old) (drop 1 e.terminals)) (map (terminal_value names new) (drop 1 e.terminals)) state
    change_same None e state r s = refl
    change_same (Some t) e state r s = state_answer t _ _ state s (fits t e (terminal_value names new) r)

    next_by : (e : Element) (w : Option GateWord) (k : ℕ) → refused_by w tables e ≡ None → AllKnown used (cond (is_some w) [] (e.kind ∷ []))
        → cond (is_some w) false (is_sequential (table_named tables e.kind)) ≡ true
        → next_state (tables_of tables used) (place_in used e.kind) (map (operand_value old) (map (operand names) (drop (outputs_by w (length e.terminals)) e.terminals))) (map (operand_value new) (map (operand names) (drop (outputs_by w (length e.terminals)) e.terminals))) (value_at old_states k)
        ≡ changed_by (table_named tables e.kind) (map (terminal_value names old) (drop (outputs_by w (length e.terminals)) e.terminals)) (map (terminal_value names new) (drop (outputs_by w (length e.terminals)) e.terminals)) (value_at old_states k)
    next_by e (Some w) k r a s = absurd cc
    next_by e None k r a s =
        let inputs : List Operand = map (operand names) (drop 1 e.terminals) in
        let was : List Tern = map (operand_value old) inputs in
        let now : List Tern = map (operand_value new) inputs in
        let read : List Tern = map (terminal_value names old) (drop 1 e.terminals) in
        ap (λ o. state_by o was now (value_at old_states k)) (word_known None e refl a)
        ∙ ap (λ z. state_by (table_named tables e.kind) z now (value_at old_states k)) (operands_value names old (drop 1 e.terminals))
        ∙ ap (λ z. state_by (table_named tables e.kind) read z (value_at old_states k)) (operands_value names new (drop 1 e.terminals))
        ∙ change_same (table_named tables e.kind) e (value_at old_states k) r s

    next_same : (e : Element) (place k : ℕ) → refused_element tables e ≡ None → AllKnown used (primitive_name e) → holds_state tables e ≡ true
        → next_state (tables_of tables used) (place_in used e.kind) (levels_of old (gate_of tables used names place k e)) (levels_of new (gate_of tables used names place k e)) (value_at old_states k)
        ≡ changed_by (table_named tables e.kind) (input_values names old e) (input_values names new e) (value_at old_states k)
    next_same e place k r a s = next_by e (element_word e) k r a s

    has_moved : (e : Element) (place k : ℕ) (w : Option GateWord) (s : Bool) → cond (is_some w) false s ≡ s
        → (s ≡ true → next_state (tables_of tables used) (place_in used e.kind) (levels_of old (gate_of tables used names place k e)) (levels_of new (gate_of tables used names place k e)) (value_at old_states k)
        ≡ changed_by (table_named tables e.kind) (input_values names old e) (input_values names new e) (value_at old_states k))
        → IsStateMoved (tables_of tables used) old old_states new new_states (gate_of tables used names place k e) (function_by w s (place_in used e.kind) k)
        → HasMoved s tables names old (value_at old_states k) new (value_at new_states k) e
    has_moved e place k (Some w) true c n h = absurd cc
    has_moved e place k (Some w) false c n h = tt
    has_moved e place k None true c n h = h ∙ n refl
    has_moved e place k None false c n h = tt

    moved_has : (e : Element) (place k : ℕ) (w : Option GateWord) (s : Bool)
        → (s ≡ true → next_state (tables_of tables used) (place_in used e.kind) (levels_of old (gate_of tables used names place k e)) (levels_of new (gate_of tables used names place k e)) (value_at old_states k)
        ≡ changed_by (table_named tables e.kind) (input_values names old e) (input_values names new e) (value_at old_states k))
        → HasMoved s tables names old (value_at old_states k) new (value_at new_states k) e
        → IsStateMoved (tables_of tables used) old old_states new new_states (gate_of tables used names place k e) (function_by w s (place_in used e.kind) k)
    moved_has e place k (Some w) s n h = tt
    moved_has e place k None true n h = h ∙ sym (n refl)
    moved_has e place k None false n h = tt

    no_gate : (w : Option GateWord) (s : Bool) → cond (is_some w) false (cond (is_some w) false s) ≡ cond (is_some w) false s
    no_gate (Some w) s = refl
    no_gate None s = refl

    pub states_move : (place k : ℕ) (es : List Element) → first_refused tables es ≡ None → AllKnown used (flat_map primitive_name es)
        → AreStatesMoved (tables_of tables used) old old_states new new_states (gates_from tables used names place k es) → StatesMove tables names old old_states new new_states k es
    states_move place k [] r a h = tt
    states_move place k (e ∷ es) r a h =
        let parts = none_first (refused_element tables e) (first_refused tables es) r in
        let known = known_parts used (primitive_name e) (flat_map primitive_name es) a in (
          has_moved e place k (element_word e) (holds_state tables e) (no_gate (element_word e) (is_sequential (table_named tables e.kind))) (next_same e place k parts.0 known.0) h.0,
          states_move (place + 1) (next_state_place (holds_state tables e) k) es parts.1 known.1 h.1,
        )

    pub move_states : (place k : ℕ) (es : List Element) → first_refused tables es ≡ None → AllKnown used (flat_map primitive_name es)
        → StatesMove tables names old old_states new new_states k es → AreStatesMoved (tables_of tables used) old old_states new new_states (gates_from tables used names place k es)
    move_states place k [] r a h = tt
    move_states place k (e ∷ es) r a h =
        let parts = none_first (refused_element tables e) (first_refused tables es) r in
        let known = known_parts used (primitive_name e) (flat_map primitive_name es) a in (
          moved_has e place k (element_word e) (holds_state tables e) (next_same e place k parts.0 known.0) h.0,
          move_states (place + 1) (next_state_place (holds_state tables e) k) es parts.1 known.1 h.1,
        )

-- ---- nets that nothing drives

pub terminals_of : (names : List (List ℕ)) (name : List ℕ) (count : ℕ) (ts : List Terminal) → AllKnown names (flat_map terminal_names ts) → is_known name names ≡ true
    → is_among (flat_map (driven names) (take count ts)) (place_in names name) ≡ list_any (is_of name) (take count ts)
terminals_of names name zero ts known k = refl
terminals_of names name (suc count) [] known k = refl
terminals_of names name (suc count) (terminals.Net n ∷ ts) known k =
    ap (λ b. b || is_among (flat_map (driven names) (take count ts)) (place_in names name)) (same_place names n name known.0 k)
    ∙ ap (λ b. bytes_eq n name || b) (terminals_of names name count ts known.1 k)
terminals_of names name (suc count) (terminals.Constant v ∷ ts) known k = terminals_of names name count ts known k

pub driven_named : (tables : List Table) (used names : List (List ℕ)) (name : List ℕ) (place k : ℕ) (es : List Element) → AllKnown names (flat_map element_names es) → is_known name names ≡ true
    → is_driven (gates_from tables used names place k es) (place_in names name) ≡ is_output name es
driven_named tables used names name place k [] known h = refl
driven_named tables used names name place k (e ∷ es) known h =
    let parts = known_parts names (element_names e) (flat_map element_names es) known in
    ap (λ b. b || is_driven (gates_from tables used names (place + 1) (next_state_place (holds_state tables e) k) es) (place_in names name)) (terminals_of names name (outputs_by (element_word e) (length e.terminals)) e.terminals (element_known names e parts.0) h)
    ∙ ap (λ b. list_any (is_of name) (output_terminals e) || b) (driven_named tables used names name (place + 1) (next_state_place (holds_state tables e) k) es parts.1 h)
