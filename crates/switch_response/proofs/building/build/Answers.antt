use Rattle.std.proofs.Common.{◌≡◌, ◌+◌, ◌^◌, ◌<◌, ◌++◌, ℕ, List, length, map, sym, ◌∙◌, ap, subst, refl, length-append, arith, rules}
use Rattle.std.specs.Prelude.{All, replicate}
use Rattle.std.proofs.lemmas.List.{length-map}
use Rattle.circuit.specs.declared.tech.Supply.{Supply}
use Rattle.switch_response.specs.Wiring.{input_nodes, size_of, supply_value, AllStandFor}
use Rattle.switch_response.specs.Places.{AreModels, AreAllEnds, HasNumbers}
use Rattle.switch_response.specs.declared.transistor.Transistor.{Transistor}
use Rattle.switch_response.specs.Spread.{IsWithin}
use Rattle.switch_response.specs.Arcs.{Wires}
use Rattle.switch_response.proofs.BuiltNetwork.{have_numbers, all_within, count_of_strengths, is_network}
use Rattle.switch_response.proofs.building.build.Goals as goal
use Rattle.switch_response.proofs.building.build.Goals.{In_ok-transistors, In_ok-values}

pub transistors_of-requires-clause-models : goal.transistors_of-requires-clause-models
transistors_of-requires-clause-models c = subst (AreModels c.as_slice-models.result.now c.as_slice-cards.result.now) (sym c.deref-2.ensures.value) c.in_ok-places.ensures.models

many : (inputs : List (List ℕ)) (supplies : List Supply) → length (input_nodes inputs supplies) ≡ length inputs + length supplies
many inputs supplies = length-append inputs (map (λ s. s.name) supplies) ∙ ap (λ n. length inputs + n) (length-map supplies (λ s. s.name))

pub transistors_of-requires-clause-numbers : goal.transistors_of-requires-clause-numbers
transistors_of-requires-clause-numbers c =
    let inputs : List (List ℕ) = input_nodes c.args.inputs.now c.args.supplies.now in
    let storage : length c.in_ok-nodes.nodes.names.items ≡ c.len-storage.result = search rules in
    let fits : c.len-storage.result + length inputs < 2 ^ 64 = rw (many c.args.inputs.now c.args.supplies.now) (omega arith) in
    subst (All (HasNumbers c.len-storage.result)) (sym c.deref-3.ensures.value)
    (have_numbers c.in_ok-nodes.nodes.names.items inputs c.args.part.now.transistors c.in_ok-nodes.ends.items c.len-storage.result storage fits c.in_ok-nodes.ensures.count (c.in_ok-nodes.ensures.ends inputs c.in_ok-input_nodes.ensures))

strengths : (c : In_ok-values) → c.in_ok-strengths.strengths.items ≡ map (size_of c.args.tech.now.sizes c.args.part.now.name) c.in_ok-nodes.nodes.names.items ++ replicate (length (input_nodes c.args.inputs.now c.args.supplies.now)) 8
strengths c =
    c.in_ok-strengths.ensures
    ∙ ap (λ s. map (size_of s c.as_bytes.result.now) c.deref.result.now ++ replicate (length c.args.inputs.now + length c.args.supplies.now) 8) c.as_slice.ensures
    ∙ ap (λ n. map (size_of c.args.tech.now.sizes n) c.deref.result.now ++ replicate (length c.args.inputs.now + length c.args.supplies.now) 8) c.as_bytes.ensures
    ∙ ap (λ xs. map (size_of c.args.tech.now.sizes c.args.part.now.name) xs ++ replicate (length c.args.inputs.now + length c.args.supplies.now) 8) c.deref.ensures.value
    ∙ ap (λ n. map (size_of c.args.tech.now.sizes c.args.part.now.name) c.in_ok-nodes.nodes.names.items ++ replicate n 8) (sym (many c.args.inputs.now c.args.supplies.now))

transistors : (c : In_ok-transistors) → AllStandFor c.args.tech.now.models (c.in_ok-nodes.nodes.names.items ++ input_nodes c.args.inputs.now c.args.supplies.now) c.args.part.now.transistors c.in_ok-transistors.transistors.items
transistors c =
    let inputs : List (List ℕ) = input_nodes c.args.inputs.now c.args.supplies.now in
    let names : List (List ℕ) = c.in_ok-nodes.nodes.names.items in
    let storage : length names ≡ c.len-storage.result = search rules in
    let ends : AreAllEnds names inputs c.as_slice-cards.result.now c.deref-3.result.now =
    subst (λ cards. AreAllEnds names inputs cards c.deref-3.result.now) (sym c.as_slice-cards.ensures)
    (subst (AreAllEnds names inputs c.args.part.now.transistors) (sym c.deref-3.ensures.value) (c.in_ok-nodes.ensures.ends inputs c.in_ok-input_nodes.ensures)) in
    subst (λ models. AllStandFor models (names ++ inputs) c.args.part.now.transistors c.in_ok-transistors.transistors.items) c.as_slice-models.ensures
    (subst (λ cards. AllStandFor c.as_slice-models.result.now (names ++ inputs) cards c.in_ok-transistors.transistors.items) c.as_slice-cards.ensures
    (c.in_ok-transistors.ensures names inputs storage ends))

wired : (c : In_ok-values) (ts : List Transistor) → AllStandFor c.args.tech.now.models (c.in_ok-nodes.nodes.names.items ++ input_nodes c.args.inputs.now c.args.supplies.now) c.args.part.now.transistors ts
    → c.in_ok-wiring.wiring.transistors ≡ ts → AllStandFor c.args.tech.now.models (c.in_ok-nodes.nodes.names.items ++ input_nodes c.args.inputs.now c.args.supplies.now) c.args.part.now.transistors c.in_ok-wiring.wiring.transistors
wired c ts stand is = subst (AllStandFor c.args.tech.now.models (c.in_ok-nodes.nodes.names.items ++ input_nodes c.args.inputs.now c.args.supplies.now) c.args.part.now.transistors) (sym is) stand

pub new-requires-clause-within : goal.new-requires-clause-within
new-requires-clause-within c =
    let inputs : List (List ℕ) = input_nodes c.args.inputs.now c.args.supplies.now in
    let names : List (List ℕ) = c.in_ok-nodes.nodes.names.items in
    let storage : length names ≡ c.len-storage.result = search rules in
    let count : length (names ++ inputs) ≡ c.len-storage.result + (length c.args.inputs.now + length c.args.supplies.now) =
    length-append names inputs ∙ ap (λ n. n + length inputs) storage ∙ ap (λ n. c.len-storage.result + n) (many c.args.inputs.now c.args.supplies.now) in
    subst (λ n. All (IsWithin n) c.in_ok-transistors.transistors.items) count
    (all_within c.args.tech.now.models (names ++ inputs) c.args.part.now.transistors c.in_ok-transistors.transistors.items (transistors c))

pub invariant_of-result : goal.invariant_of-result
invariant_of-result c =
    let inputs : List (List ℕ) = input_nodes c.args.inputs.now c.args.supplies.now in
    let names : List (List ℕ) = c.in_ok-nodes.nodes.names.items in
    let supplies : length c.in_ok-values.values.items ≡ length c.args.supplies.now = ap length c.in_ok-values.ensures ∙ length-map c.args.supplies.now (λ s. supply_value s.kind) in
    let storage : c.len-storage.result ≡ length names = search rules in
    let count : length c.in_ok-strengths.strengths.items ≡ c.len-storage.result + (length c.args.inputs.now + length c.args.supplies.now) =
    count_of_strengths c.args.tech.now.sizes c.args.part.now.name names (length inputs) c.in_ok-strengths.strengths.items (strengths c) ∙ ap (λ n. n + length inputs) (sym storage) ∙ ap (λ n. c.len-storage.result + n) (many c.args.inputs.now c.args.supplies.now) in
    let stand = transistors (goal.at.invariant_of-result c).In_ok-transistors in (
      is_network c.args.tech.now.sizes c.args.part.now.name c.args.tech.now.models names inputs c.args.part.now.transistors
          (length c.args.inputs.now) c.in_ok-values.values.items c.in_ok-strengths.strengths.items c.in_ok-wiring.wiring.transistors c.requires.sizes (strengths c)
          (many c.args.inputs.now c.args.supplies.now ∙ ap (λ n. length c.args.inputs.now + n) (sym supplies)) (wired c c.in_ok-transistors.transistors.items stand (ap (λ (w : Wires). w.transistors) c.in_ok-wiring.ensures)),
      c.in_ok-nodes.ensures.index,
      ap (λ (w : Wires). w.storage) c.in_ok-wiring.ensures ∙ storage,
      ap (λ (w : Wires). w.nodes) c.in_ok-wiring.ensures ∙ sym count,
      omega (arith, count),
    )

pub returns-clause-network : goal.returns-clause-network
returns-clause-network c =
    let v = (goal.at.returns-clause-network c).In_ok-values in
    record {
      names = c.in_ok-nodes.ensures.names (input_nodes c.args.inputs.now c.args.supplies.now) c.in_ok-input_nodes.ensures;
      storage = refl;
      pins = refl;
      supply_values = c.in_ok-values.ensures;
      strengths = strengths v;
      transistors = wired v c.in_ok-transistors.transistors.items (transistors (goal.at.returns-clause-network c).In_ok-transistors) (ap (λ (w : Wires). w.transistors) c.in_ok-wiring.ensures);
    }
