-- A module's network is settled, and moves, as its elements say.
use Rattle.std.proofs.Common.{◌≡◌, ℕ, zero, suc, ◌<◌, ◌≤◌, true, false, List, [], ◌∷◌, length, map, Some, refl, sym, ap, subst, ◌∙◌, arith}
use Rattle.std.specs.Prelude.{is_some, slice_get, sum_by, ◌↔◌}
use Rattle.std.proofs.lemmas.List.{length-map}
use native.Mathlib.Decide.{dec_lt}
use Rattle.tern_core.specs.declared.tern.Tern.{Tern}
use Rattle.tern_core.specs.declared.tern.Tern.TheVariants.{Unknown}
use Rattle.verilog_source.specs.declared.module.Module.{Module}
use Rattle.udp_table.specs.Table.{Table}
use Rattle.gate_settle.specs.declared.gate.Given.{Given}
use Rattle.gate_settle.specs.declared.gate.Gate.{Gate}
use Rattle.gate_settle.specs.Gates.{value_at, is_driven}
use Rattle.gate_settle.specs.Settled.{AreGatesSettled, AreStatesMoved}
use Rattle.gate_settle.specs.Network.{given_value, given_values, IsSettled, IsMoveOf, HasOneSettled}
use Rattle.name_index.specs.Places.{place_of, is_known}
use Rattle.name_index.proofs.Places.{known_by_place}
use Rattle.module_net.specs.Naming.{nets_of, names_in, or_zero, place_in}
use Rattle.module_net.specs.Elements.{used_in, tables_of}
use Rattle.module_net.specs.Outside.{given_of}
use Rattle.module_net.specs.Building.{NamedNetwork, IsNetOf, gates_of}
use Rattle.module_net.specs.Meaning.{is_output, IsSettledModule, HasOneSettledModule, IsModuleMove, HasOneModuleMove}
use Rattle.module_net.proofs.Built.{module_known}
use Rattle.module_net.proofs.Named.{stands, first_place}
use Rattle.module_net.proofs.Arranged.{same_driven, settled_same, moved_same}
use Rattle.module_net.proofs.Moves.{one_move}
use Rattle.module_net.proofs.Giving.{found_used, used_known, elements_give, give_elements, states_move, move_states, driven_named}

-- the value of what stands at a place
at_map : (f : Given → Tern) (g : List ℕ → Given) (names : List (List ℕ)) (k : ℕ) (n : List ℕ) → slice_get names k ≡ Some n → value_at (map f (map g names)) k ≡ f (g n)
at_map f g [] k n h = absurd cc
at_map f g (m ∷ names) zero n h = let e : m ≡ n = cc in ap (λ z. f (g z)) e
at_map f g (m ∷ names) (suc k) n h = at_map f g names k n h

past : (values : List Tern) (k : ℕ) → length values ≤ k → value_at values k ≡ Unknown
past [] k h = refl
past (v ∷ values) zero h = absurd (omega arith)
past (v ∷ values) (suc k) h = past values k (omega arith)

pub name_at : (names : List (List ℕ)) (k : ℕ) → k < length names → (n : List ℕ) × (slice_get names k ≡ Some n)
name_at [] k h = absurd (omega arith)
name_at (n ∷ names) zero h = (n, refl)
name_at (n ∷ names) (suc k) h = name_at names k (omega arith)

module _ (m : Module) (tables : List Table) (inputs : List (List ℕ)) (supplies : List (List ℕ × Tern)) (net : NamedNetwork) (is : IsNetOf m tables inputs supplies net) where
  names : List (List ℕ)
  names = nets_of m

  same : (f : Gate → ℕ) → sum_by f net.network.gates ≡ sum_by f (gates_of m tables)
  same = is.connected.same_gates

  back : (f : Gate → ℕ) → sum_by f (gates_of m tables) ≡ sum_by f net.network.gates
  back f = sym (same f)

  given_long : (pins : List Tern) → length (given_values net.network.given pins) ≡ length (nets_of m)
  given_long pins = length-map net.network.given (given_value pins) ∙ ap length is.connected.same_given ∙ length-map (nets_of m) (given_of m inputs supplies)

  given_at : (pins : List Tern) (k : ℕ) (n : List ℕ) → slice_get (nets_of m) k ≡ Some n → value_at (given_values net.network.given pins) k ≡ given_value pins (given_of m inputs supplies n)
  given_at pins k n h =
      ap (λ (g : List Given). value_at (given_values g pins) k) is.connected.same_given
      ∙ at_map (given_value pins) (given_of m inputs supplies) (nets_of m) k n h

  driven_as : (n : List ℕ) → is_known n (nets_of m) ≡ true → is_driven net.network.gates (place_in (nets_of m) n) ≡ is_output n m.elements
  driven_as n k = same_driven net.network.gates (gates_of m tables) same (place_in (nets_of m) n) ∙ driven_named tables (used_in m.elements) (nets_of m) n 0 0 m.elements (module_known m) k

  pub to_module : (pins states nets : List Tern) → IsSettled net.network pins states nets → IsSettledModule m tables inputs supplies pins states nets
  to_module pins states nets s = record {
    count = s.count ∙ given_long pins;
    elements = elements_give tables (used_in m.elements) (nets_of m) (found_used tables m.elements is.elements) nets states 0 0 m.elements is.elements (used_known m.elements)
        (settled_same (tables_of tables (used_in m.elements)) states nets net.network.gates (gates_of m tables) same
        (subst (λ (t : List Table). AreGatesSettled t states nets net.network.gates) is.connected.same_tables s.driven));
    others = λ n k o. s.free (place_in (nets_of m) n) (driven_as n k ∙ o) ∙ given_at pins (place_in (nets_of m) n) n (stands (nets_of m) n k);
  }

  free_at : (pins states nets : List Tern) → IsSettledModule m tables inputs supplies pins states nets → (k : ℕ) → is_driven net.network.gates k ≡ false → k < length (nets_of m)
      → value_at nets k ≡ value_at (given_values net.network.given pins) k
  free_at pins states nets s k d less =
      let n = name_at (nets_of m) k less in
      let place : place_of (nets_of m) n.0 ≡ Some k = first_place (names_in m) k n.0 n.1 in
      let here : place_in (nets_of m) n.0 ≡ k = ap or_zero place in
      let known : is_known n.0 (nets_of m) ≡ true = sym (known_by_place (nets_of m) n.0) ∙ ap is_some place in
      ap (value_at nets) (sym here)
      ∙ s.others n.0 known (sym (driven_as n.0 known) ∙ ap (is_driven net.network.gates) here ∙ d)
      ∙ sym (given_at pins k n.0 n.1)

  from_module : (pins states nets : List Tern) → IsSettledModule m tables inputs supplies pins states nets → IsSettled net.network pins states nets
  from_module pins states nets s = record {
    count = s.count ∙ sym (given_long pins);
    free = λ k d. elim (dec_lt k (length (nets_of m))) [
      | yes less ↦ free_at pins states nets s k d less
      | no more ↦
          let a = s.count in
          let b = given_long pins in
          past nets k (omega arith) ∙ sym (past (given_values net.network.given pins) k (omega arith))
    ];
    driven = subst (λ (t : List Table). AreGatesSettled t states nets net.network.gates) (sym is.connected.same_tables)
        (settled_same (tables_of tables (used_in m.elements)) states nets (gates_of m tables) net.network.gates back
        (give_elements tables (used_in m.elements) (nets_of m) (found_used tables m.elements is.elements) nets states 0 0 m.elements is.elements (used_known m.elements) s.elements));
  }

  pub settled_agrees : (pins states nets : List Tern) → IsSettled net.network pins states nets ↔ IsSettledModule m tables inputs supplies pins states nets
  settled_agrees pins states nets = (to_module pins states nets, from_module pins states nets)

  pub one_agrees : HasOneSettled net.network → HasOneSettledModule m tables inputs supplies
  one_agrees one pins states =
      let found = one pins states in
      (found.0, to_module pins states found.0 found.1, λ others h. found.2 others (from_module pins states others h))

  move_to_module : (pins old_nets old_states nets states : List Tern) → IsMoveOf net.network pins old_nets old_states nets states → IsModuleMove m tables inputs supplies pins old_nets old_states nets states
  move_to_module pins old_nets old_states nets states s = record {
    settled = to_module pins states nets s.settled;
    states = states_move tables (used_in m.elements) (nets_of m) (found_used tables m.elements is.elements) old_nets old_states nets states 0 0 m.elements is.elements (used_known m.elements)
        (moved_same (tables_of tables (used_in m.elements)) old_nets old_states nets states net.network.gates (gates_of m tables) same
        (subst (λ (t : List Table). AreStatesMoved t old_nets old_states nets states net.network.gates) is.connected.same_tables s.states));
    count = s.count;
  }

  move_from_module : (pins old_nets old_states nets states : List Tern) → IsModuleMove m tables inputs supplies pins old_nets old_states nets states → IsMoveOf net.network pins old_nets old_states nets states
  move_from_module pins old_nets old_states nets states s = record {
    settled = from_module pins states nets s.settled;
    states = subst (λ (t : List Table). AreStatesMoved t old_nets old_states nets states net.network.gates) (sym is.connected.same_tables)
        (moved_same (tables_of tables (used_in m.elements)) old_nets old_states nets states (gates_of m tables) net.network.gates back
        (move_states tables (used_in m.elements) (nets_of m) (found_used tables m.elements is.elements) old_nets old_states nets states 0 0 m.elements is.elements (used_known m.elements) s.states));
    count = s.count;
  }

  pub moved_agrees : (pins old_nets old_states nets states : List Tern) → IsMoveOf net.network pins old_nets old_states nets states ↔ IsModuleMove m tables inputs supplies pins old_nets old_states nets states
  moved_agrees pins old_nets old_states nets states = (move_to_module pins old_nets old_states nets states, move_from_module pins old_nets old_states nets states)

  pub one_move_agrees : (pins old_nets old_states : List Tern) → length old_states ≡ length net.network.state_nets → HasOneModuleMove m tables inputs supplies pins old_nets old_states
  one_move_agrees pins old_nets old_states count nets states others other_states one two =
      one_move m tables inputs supplies net is pins old_nets old_states count nets states others other_states
      (move_from_module pins old_nets old_states nets states one) (move_from_module pins old_nets old_states others other_states two)
