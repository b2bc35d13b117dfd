-- A module's network is refused for what its elements do, by the names of its nets.
use Rattle.std.proofs.Common.{◌≡◌, ℕ, zero, suc, ◌+◌, ◌<◌, ◌≤◌, Bool, true, cond, ◌||◌, ◌&&◌, inl, inr, eqb, eqb-true, List, [], ◌∷◌, length, map, take, drop, Some, refl, sym, ap, subst, ◌∙◌, arith}
use Rattle.std.specs.Prelude.{is_some, slice_get, slice_index_or, ◌↔◌}
use Rattle.std.specs.List.{flat_map, list_any}
use Rattle.std.specs.Str.{bytes_eq}
use Rattle.std.specs.Cmp.Lexicographic.{bytes_decides}
use Rattle.std.proofs.lemmas.List.{length-map}
use Rattle.std.proofs.lemmas.List.Sums.{sum_by-cons}
use Rattle.tern_core.specs.declared.tern.Tern.{Tern}
use Rattle.verilog_source.specs.declared.module.Module.{Module}
use Rattle.verilog_source.specs.declared.module.Element.{Element}
use Rattle.verilog_source.specs.declared.module.Terminal.{Terminal}
use Rattle.verilog_source.specs.declared.module.Terminal.TheVariants as terminals
use Rattle.udp_table.specs.Table.{Table}
use Rattle.gate_settle.specs.declared.gate.Gate.{Gate}
use Rattle.gate_settle.specs.declared.gate.Given.{Given}
use Rattle.gate_settle.specs.declared.gate.Given.TheVariants.{Floating}
use Rattle.gate_settle.specs.Claims.{claim_of, claims_on}
use Rattle.gate_settle.specs.Connecting.{HaveOneDriver}
use Rattle.gate_settle.specs.Gates.{is_among}
use Rattle.gate_settle.specs.Order.{is_input, is_fed_by, DependsOn, directly, through, times, drivers}
use Rattle.name_index.specs.Places.{place_of, is_known}
use Rattle.name_index.proofs.Places.{known_by_place, place_within}
use Rattle.module_net.specs.declared.refusal.GateRefusal.{GateRefusal}
use Rattle.module_net.specs.declared.refusal.GateRefusal.TheVariants.{NoMemory, Loop, TwoDrivers, UnknownUdp, PortCount}
use Rattle.module_net.specs.Naming.{nets_of, names_in, terminal_names, element_names, or_zero, place_in}
use Rattle.module_net.specs.Elements.{element_word, outputs_by, input_terminals, output_terminals, holds_state, used_in, operand, driven, gate_of, next_state_place, gates_from}
use Rattle.module_net.specs.Outside.{given_of}
use Rattle.module_net.specs.Building.{NamedNetwork, IsNetOf, IsRefused, givens_of, gates_of}
use Rattle.module_net.specs.Meaning.{is_of}
use Rattle.module_net.specs.Driving.{places_of, outputs_on, values_on, is_fed, NetDependsOn, at_once, by_way, GetOneValue, IsRefusedModule, IsAcceptedModule}
use Rattle.module_net.proofs.Built.{AllKnown, known_parts, element_known, module_known, place_below}
use Rattle.module_net.proofs.Named.{stands, same_place, first_place}
use Rattle.module_net.proofs.Arranged.{both, either}
use Rattle.module_net.proofs.Giving.{terminals_of}
use Rattle.module_net.proofs.Agreeing.{name_at}

-- ---- how often a net gets a value

times_of : (names : List (List ℕ)) (name : List ℕ) (count : ℕ) (ts : List Terminal) → AllKnown names (flat_map terminal_names ts) → is_known name names ≡ true
    → times (flat_map (driven names) (take count ts)) (place_in names name) ≡ places_of name (take count ts)
times_of names name zero ts known k = refl
times_of names name (suc count) [] known k = refl
times_of names name (suc count) (terminals.Net n ∷ ts) known k =
    ap (λ (b : Bool). cond b 1 0 + times (flat_map (driven names) (take count ts)) (place_in names name)) (same_place names n name known.0 k)
    ∙ ap (λ (c : ℕ). cond (bytes_eq n name) 1 0 + c) (times_of names name count ts known.1 k)
times_of names name (suc count) (terminals.Constant v ∷ ts) known k =
    let e : places_of name (take count ts) ≡ 0 + places_of name (take count ts) = omega arith in
    times_of names name count ts known k ∙ e

drivers_of : (tables : List Table) (used names : List (List ℕ)) (name : List ℕ) (place k : ℕ) (es : List Element) → AllKnown names (flat_map element_names es) → is_known name names ≡ true
    → drivers (gates_from tables used names place k es) (place_in names name) ≡ outputs_on name es
drivers_of tables used names name place k [] known h = refl
drivers_of tables used names name place k (e ∷ es) known h =
    let parts = known_parts names (element_names e) (flat_map element_names es) known in
    let rest = gates_from tables used names (place + 1) (next_state_place (holds_state tables e) k) es in
    let c = sum_by-cons (λ (g : Gate). times g.outputs (place_in names name)) (gate_of tables used names place k e) rest in
    let a = times_of names name (outputs_by (element_word e) (length e.terminals)) e.terminals (element_known names e parts.0) h in
    let b = drivers_of tables used names name (place + 1) (next_state_place (holds_state tables e) k) es parts.1 h in
    c ∙ ap (λ (z : ℕ). z + drivers rest (place_in names name)) a ∙ ap (λ (z : ℕ). places_of name (output_terminals e) + z) b

-- ---- which net depends on which

inputs_of : (names : List (List ℕ)) (name : List ℕ) (count : ℕ) (ts : List Terminal) → AllKnown names (flat_map terminal_names ts) → is_known name names ≡ true
    → is_input (map (operand names) (drop count ts)) (place_in names name) ≡ list_any (is_of name) (drop count ts)
inputs_of names name zero [] known k = refl
inputs_of names name zero (terminals.Net n ∷ ts) known k =
    ap (λ b. b || is_input (map (operand names) ts) (place_in names name)) (same_place names n name known.0 k)
    ∙ ap (λ b. bytes_eq n name || b) (inputs_of names name zero ts known.1 k)
inputs_of names name zero (terminals.Constant v ∷ ts) known k = inputs_of names name zero ts known k
inputs_of names name (suc count) [] known k = refl
inputs_of names name (suc count) (t ∷ ts) known k = inputs_of names name count ts (known_parts names (terminal_names t) (flat_map terminal_names ts) known).1 k

fed_same : (tables : List Table) (used names : List (List ℕ)) (name other : List ℕ) (place k : ℕ) (es : List Element) → AllKnown names (flat_map element_names es) → is_known name names ≡ true → is_known other names ≡ true
    → is_fed_by (gates_from tables used names place k es) (place_in names name) (place_in names other) ≡ is_fed name other es
fed_same tables used names name other place k [] known h i = refl
fed_same tables used names name other place k (e ∷ es) known h i =
    let parts = known_parts names (element_names e) (flat_map element_names es) known in
    let count = outputs_by (element_word e) (length e.terminals) in
    let rest = is_fed_by (gates_from tables used names (place + 1) (next_state_place (holds_state tables e) k) es) (place_in names name) (place_in names other) in
    ap (λ b. b && is_input (map (operand names) (input_terminals e)) (place_in names other) || rest) (terminals_of names name count e.terminals (element_known names e parts.0) h)
    ∙ ap (λ b. list_any (is_of name) (output_terminals e) && b || rest) (inputs_of names other count e.terminals (element_known names e parts.0) i)
    ∙ ap (λ b. list_any (is_of name) (output_terminals e) && list_any (is_of other) (input_terminals e) || b) (fed_same tables used names name other (place + 1) (next_state_place (holds_state tables e) k) es parts.1 h i)

abbrev pub IsNamed : List (List ℕ) → ℕ → Type 0
IsNamed names k = (name : List ℕ) × (is_known name names ≡ true) × (place_in names name ≡ k)

-- what is an input has a name
input_named : (names : List (List ℕ)) (count : ℕ) (ts : List Terminal) (k : ℕ) → AllKnown names (flat_map terminal_names ts) → is_input (map (operand names) (drop count ts)) k ≡ true → IsNamed names k
input_named names zero [] k known h = absurd cc
input_named names zero (terminals.Net n ∷ ts) k known h = elim (either (eqb (place_in names n) k) _ h) [
  | inl e ↦ (n, known.0, eqb-true (place_in names n) k e)
  | inr e ↦ input_named names zero ts k known.1 e
]
input_named names zero (terminals.Constant v ∷ ts) k known h = input_named names zero ts k known h
input_named names (suc count) [] k known h = absurd cc
input_named names (suc count) (t ∷ ts) k known h = input_named names count ts k (known_parts names (terminal_names t) (flat_map terminal_names ts) known).1 h

fed_named : (tables : List Table) (used names : List (List ℕ)) (place state a b : ℕ) (es : List Element) → AllKnown names (flat_map element_names es)
    → is_fed_by (gates_from tables used names place state es) a b ≡ true → IsNamed names b
fed_named tables used names place state a b [] known h = absurd cc
fed_named tables used names place state a b (e ∷ es) known h =
    let parts = known_parts names (element_names e) (flat_map element_names es) known in
    elim (either (is_among (flat_map (driven names) (output_terminals e)) a && is_input (map (operand names) (input_terminals e)) b) _ h) [
      | inl f ↦ input_named names (outputs_by (element_word e) (length e.terminals)) e.terminals b (element_known names e parts.0) (both _ _ f).1
      | inr f ↦ fed_named tables used names (place + 1) (next_state_place (holds_state tables e) state) a b es parts.1 f
    ]

among_known : (names : List (List ℕ)) (name : List ℕ) (count : ℕ) (ts : List Terminal) → AllKnown names (flat_map terminal_names ts) → list_any (is_of name) (drop count ts) ≡ true → is_known name names ≡ true
among_known names name zero [] known h = absurd cc
among_known names name zero (terminals.Net n ∷ ts) known h = elim (either (bytes_eq n name) _ h) [
  | inl e ↦ subst (λ z. is_known z names ≡ true) ((bytes_decides n name).0 e) known.0
  | inr e ↦ among_known names name zero ts known.1 e
]
among_known names name zero (terminals.Constant v ∷ ts) known h = among_known names name zero ts known h
among_known names name (suc count) [] known h = absurd cc
among_known names name (suc count) (t ∷ ts) known h = among_known names name count ts (known_parts names (terminal_names t) (flat_map terminal_names ts) known).1 h

fed_known : (names : List (List ℕ)) (name other : List ℕ) (es : List Element) → AllKnown names (flat_map element_names es) → is_fed name other es ≡ true → is_known other names ≡ true
fed_known names name other [] known h = absurd cc
fed_known names name other (e ∷ es) known h =
    let parts = known_parts names (element_names e) (flat_map element_names es) known in
    elim (either (list_any (is_of name) (output_terminals e) && list_any (is_of other) (input_terminals e)) _ h) [
      | inl f ↦ among_known names other (outputs_by (element_word e) (length e.terminals)) e.terminals (element_known names e parts.0) (both _ _ f).1
      | inr f ↦ fed_known names name other es parts.1 f
    ]

-- ---- of a module

at_most : (n : ℕ) → (2 ≤ n → ⊥) → n ≤ 1
at_most zero h = omega arith
at_most (suc zero) h = omega arith
at_most (suc (suc n)) h = absurd (h (omega arith))

at_place : (g : List ℕ → Given) (names : List (List ℕ)) (k : ℕ) (n : List ℕ) → slice_get names k ≡ Some n → slice_index_or (map g names) k Floating ≡ g n
at_place g [] k n h = absurd cc
at_place g (m ∷ names) zero n h = let e : m ≡ n = cc in ap g e
at_place g (m ∷ names) (suc k) n h = at_place g names k n h

module _ (m : Module) (tables : List Table) (inputs : List (List ℕ)) (supplies : List (List ℕ × Tern)) where
  -- a net's place is its name's
  place_here : (k : ℕ) (n : List ℕ) → slice_get (nets_of m) k ≡ Some n → place_of (nets_of m) n ≡ Some k
  place_here k n h = first_place (names_in m) k n h

  known_here : (k : ℕ) (n : List ℕ) → slice_get (nets_of m) k ≡ Some n → is_known n (nets_of m) ≡ true
  known_here k n h = sym (known_by_place (nets_of m) n) ∙ ap is_some (place_here k n h)

  claims_named : (k : ℕ) (n : List ℕ) → slice_get (nets_of m) k ≡ Some n → claims_on (givens_of m inputs supplies) (gates_of m tables) k ≡ values_on m inputs supplies n
  claims_named k n h =
      ap (λ g. claim_of g + drivers (gates_of m tables) k) (at_place (given_of m inputs supplies) (nets_of m) k n h)
      ∙ ap (λ z. claim_of (given_of m inputs supplies n) + drivers (gates_of m tables) z) (sym (ap or_zero (place_here k n h)))
      ∙ ap (λ z. claim_of (given_of m inputs supplies n) + z) (drivers_of tables (used_in m.elements) (nets_of m) n 0 0 m.elements (module_known m) (known_here k n h))

  depends_named : (a b : ℕ) (x y : List ℕ) → is_known x (nets_of m) ≡ true → is_known y (nets_of m) ≡ true → place_in (nets_of m) x ≡ a → place_in (nets_of m) y ≡ b
      → DependsOn (gates_of m tables) a b → NetDependsOn m.elements x y
  depends_named a b x y h i p q (directly f) =
      at_once (sym (fed_same tables (used_in m.elements) (nets_of m) x y 0 0 m.elements (module_known m) h i) ∙ ap (λ z. is_fed_by (gates_of m tables) z (place_in (nets_of m) y)) p ∙ ap (is_fed_by (gates_of m tables) a) q ∙ f)
  depends_named a b x y h i p q (through {b = c} f d) =
      let z = fed_named tables (used_in m.elements) (nets_of m) 0 0 a c m.elements (module_known m) f in
      by_way (sym (fed_same tables (used_in m.elements) (nets_of m) x z.0 0 0 m.elements (module_known m) h z.1) ∙ ap (λ w. is_fed_by (gates_of m tables) w (place_in (nets_of m) z.0)) p ∙ ap (is_fed_by (gates_of m tables) a) z.2 ∙ f)
      (depends_named c b z.0 y z.1 i z.2 q d)

  named_depends : (x y : List ℕ) → is_known x (nets_of m) ≡ true → NetDependsOn m.elements x y → DependsOn (gates_of m tables) (place_in (nets_of m) x) (place_in (nets_of m) y)
  named_depends x y h (at_once f) =
      directly (fed_same tables (used_in m.elements) (nets_of m) x y 0 0 m.elements (module_known m) h (fed_known (nets_of m) x y m.elements (module_known m) f) ∙ f)
  named_depends x y h (by_way {between = z} f d) =
      let i = fed_known (nets_of m) x z m.elements (module_known m) f in
      through (fed_same tables (used_in m.elements) (nets_of m) x z 0 0 m.elements (module_known m) h i ∙ f) (named_depends z y i d)

  given_long : length (givens_of m inputs supplies) ≡ length (nets_of m)
  given_long = length-map (nets_of m) (given_of m inputs supplies)

  one_value : HaveOneDriver (givens_of m inputs supplies) (gates_of m tables) (length (givens_of m inputs supplies)) → GetOneValue m inputs supplies
  one_value h n known =
      let here = stands (nets_of m) n known in
      let below = place_below (nets_of m) n known in
      let claims = claims_named (place_in (nets_of m) n) n here in
      let long = given_long in
      let few = h (place_in (nets_of m) n) (omega arith) in
      omega arith

  one_driver : GetOneValue m inputs supplies → (k : ℕ) → k < length (givens_of m inputs supplies) → claims_on (givens_of m inputs supplies) (gates_of m tables) k ≤ 1
  one_driver h k less =
      let long = given_long in
      let n = name_at (nets_of m) k (omega arith) in
      let claims = claims_named k n.0 n.1 in
      let few = h n.0 (known_here k n.0 n.1) in
      omega arith

  place_less : (k : ℕ) (n : List ℕ) → slice_get (nets_of m) k ≡ Some n → k < length (givens_of m inputs supplies)
  place_less k n h = let below = place_within (nets_of m) n k (place_here k n h) in let long = given_long in omega arith

  loops_named : (k : ℕ) (n : List ℕ) → slice_get (nets_of m) k ≡ Some n → DependsOn (gates_of m tables) k k → NetDependsOn m.elements n n
  loops_named k n h d = let p = ap or_zero (place_here k n h) in depends_named k k n n (known_here k n h) (known_here k n h) p p d

  named_loops : (k : ℕ) (n : List ℕ) → slice_get (nets_of m) k ≡ Some n → NetDependsOn m.elements n n → DependsOn (gates_of m tables) k k
  named_loops k n h d = subst (λ z. DependsOn (gates_of m tables) z z) (ap or_zero (place_here k n h)) (named_depends n n (known_here k n h) d)

  to_names : (r : GateRefusal) → IsRefused m tables inputs supplies r → IsRefusedModule m tables inputs supplies r
  to_names NoMemory h = tt
  to_names (UnknownUdp name) h = h
  to_names (PortCount label) h = h
  to_names (TwoDrivers name) h =
      let k = h.1.0 in
      let here = h.1.1 in
      let claims = claims_named k name here in
      let many = h.1.2.1 in (
        h.0,
        (
          k,
          here,
          (let a : 2 ≤ values_on m inputs supplies name = omega arith in a),
          λ j other less there more.
              let few = h.1.2.2 j less in let same = claims_named j other there in let twice : 2 ≤ values_on m inputs supplies other = more in absurd (omega arith),
        ),
      )
  to_names (Loop name) h =
      let k = h.1.0 in
      let here = h.1.1 in
      (h.0, one_value h.1.2.0, (k, here, loops_named k name here h.1.2.2, λ j other less there d. h.1.2.3 j less (named_loops j other there d)))

  from_names : (r : GateRefusal) → IsRefusedModule m tables inputs supplies r → IsRefused m tables inputs supplies r
  from_names NoMemory h = tt
  from_names (UnknownUdp name) h = h
  from_names (PortCount label) h = h
  from_names (TwoDrivers name) h =
      let k = h.1.0 in
      let here = h.1.1 in
      let claims = claims_named k name here in
      let many : 2 ≤ values_on m inputs supplies name = h.1.2 in
      (h.0, (k, here, (place_less k name here, (let a : 2 ≤ claims_on (givens_of m inputs supplies) (gates_of m tables) k = omega arith in a), λ j less. few_before k name here h.1.3 j less)))
    where
      few_before : (k : ℕ) (n : List ℕ) → slice_get (nets_of m) k ≡ Some n → ((j : ℕ) (other : List ℕ) → j < k → slice_get (nets_of m) j ≡ Some other → 2 ≤ values_on m inputs supplies other → ⊥)
          → (j : ℕ) → j < k → claims_on (givens_of m inputs supplies) (gates_of m tables) j ≤ 1
      few_before k n here none j less =
          let below = place_within (nets_of m) n k (place_here k n here) in
          let other = name_at (nets_of m) j (omega arith) in
          let claims = claims_named j other.0 other.1 in
          let few : values_on m inputs supplies other.0 ≤ 1 = at_most (values_on m inputs supplies other.0) (none j other.0 less other.1) in
          omega arith
  from_names (Loop name) h =
      let k = h.2.0 in
      let here = h.2.1 in (
        h.0,
        (
          k,
          here,
          (
            one_driver h.1,
            place_less k name here,
            named_loops k name here h.2.2,
            λ j less d.
                let below = place_within (nets_of m) name k (place_here k name here) in
                let other = name_at (nets_of m) j (omega arith) in
                h.2.3 j other.0 less other.1 (loops_named j other.0 other.1 d),
          ),
        ),
      )

  pub refusals_agree : (r : GateRefusal) → IsRefused m tables inputs supplies r ↔ IsRefusedModule m tables inputs supplies r
  refusals_agree r = (to_names r, from_names r)

  pub accepted_agrees : (net : NamedNetwork) → IsNetOf m tables inputs supplies net → IsAcceptedModule m tables inputs supplies
  accepted_agrees net is = (
    is.elements,
    one_value is.connected.one_driver,
    λ n known d.
        is.connected.no_loop (place_in (nets_of m) n) (place_less (place_in (nets_of m) n) n (stands (nets_of m) n known)) (named_depends n n known d),
  )
