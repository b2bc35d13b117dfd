-- A cell has one comparison.
use Rattle.std.proofs.Common.{◌≡◌, ℕ, ◌+◌, Bool, true, false, List, [], ◌∷◌, map, length, Option, Some, None, refl, sym, ◌∙◌, ap, subst}
use Rattle.std.specs.Prelude.{◌||◌, nat_lt}
use Rattle.std.specs.Option.{option_map}
use Rattle.tern_core.specs.declared.tern.Tern.{Tern}
use Rattle.liberty_source.specs.declared.CellPart.{CellPart}
use Rattle.liberty_source.specs.declared.CellPart.TheVariants as cells
use Rattle.liberty_source.specs.declared.LibertyCell.{LibertyCell}
use Rattle.verilog_source.specs.declared.Source.{Source}
use Rattle.verilog_source.specs.declared.module.Module.{Module}
use Rattle.verilog_source.specs.declared.module.ModulePart.{ModulePart}
use Rattle.verilog_source.specs.declared.module.ModulePart.TheVariants as modules
use Rattle.verilog_source.specs.declared.primitive.UdpPart.{UdpPart}
use Rattle.liberty_meaning.specs.declared.behaviour.Behaviour.{Behaviour}
use Rattle.liberty_meaning.specs.Behaviour.{output_value}
use Rattle.liberty_meaning.specs.Names.{input_pins, variables_of}
use Rattle.liberty_meaning.proofs.Exactly.{not_both, one_meaning}
use Rattle.udp_table.specs.Table.{Table}
use Rattle.gate_settle.specs.Network.{Network, IsSettled}
use Rattle.module_net.specs.Building.{NamedNetwork, IsNetOf}
use Rattle.verdict_text.specs.declared.finding.Finding.{Finding}
use Rattle.text_scan.specs.declared.limits.LimitKind.TheVariants.{Pins as AllPins, Inputs, Gates}
use Rattle.verdict_text.specs.declared.reason.Reason.{Reason}
use Rattle.verdict_text.specs.declared.reason.Reason.TheVariants.{Limit, NoTable}
use Rattle.cell_compare.specs.declared.comparison.Comparison.{Comparison}
use Rattle.cell_compare.specs.declared.comparison.Comparison.TheVariants.{Refused, Vectors}
use Rattle.cell_compare.specs.declared.rows.Output.{Output}
use Rattle.cell_compare.specs.declared.tally.OutputValues.{OutputValues}
use Rattle.cell_compare.specs.Vectors.{vectors}
use Rattle.cell_compare.specs.Rows.{outputs_of, net_value, values_from, AreRows, defined_count, first_disagreement}
use Rattle.cell_compare.specs.Parts.{module_named, udp_name, first_reason}
use Rattle.cell_compare.specs.Pins.{two_views, have_many_pins, compared, input_names, supplies_of}
use Rattle.cell_compare.specs.Compare.{Either, refused, finding_of, AreCompared, holds_state, IsOverNetwork, IsOverTables, no_network, network, IsOverReason, IsOverPrimitives, IsOverElements, drive_constants, drive_nets, IsOverMeaning, no_meaning, meaning, IsOverModule, IsOverFindings, IsOverPins, IsOverPart, IsComparison}
use Rattle.cell_compare.proofs.OneReason.{one_meaning_reason}
use Rattle.cell_compare.proofs.OneTable.{made_once}
use Rattle.cell_compare.proofs.OneNetwork.{one_gate_reason, net_or_reason, settle_alike}
use Rattle.pin_tables.proofs.OneList.{one_list}

-- ---- the rows

module _ (b c : Behaviour) (same : (k : ℕ) (pins : List Tern) → output_value b k pins [] ≡ output_value c k pins []) where
  values_alike : (pins nets : List Tern) (k : ℕ) (outputs : List Output) → values_from b pins nets k outputs ≡ values_from c pins nets k outputs
  values_alike pins nets k [] = refl
  values_alike pins nets k (o ∷ outputs) =
      let made : Tern → OutputValues = λ v. record { liberty = v; verilog = net_value nets o.net } in
      ap (λ v. made v ∷ values_from b pins nets (k + 1) outputs) (same k pins) ∙ ap (λ vs. made (output_value c k pins []) ∷ vs) (values_alike pins nets (k + 1) outputs)

  rows_alike : (net other : Network) → ((pins nets others : List Tern) → IsSettled net pins [] nets → IsSettled other pins [] others → nets ≡ others) → (outputs : List Output)
      → (vs : List (List Tern)) (rows others : List (List OutputValues)) → AreRows b net outputs vs rows → AreRows c other outputs vs others → rows ≡ others
  rows_alike net other alike outputs [] [] [] h k = refl
  rows_alike net other alike outputs [] [] (o ∷ others) h k = absurd k
  rows_alike net other alike outputs [] (r ∷ rows) others h k = absurd h
  rows_alike net other alike outputs (pins ∷ vs) [] others h k = absurd h
  rows_alike net other alike outputs (pins ∷ vs) (r ∷ rows) [] h k = absurd k
  rows_alike net other alike outputs (pins ∷ vs) (r ∷ rows) (o ∷ others) h k =
      let nets : h.0.0 ≡ k.0.0 = alike pins h.0.0 k.0.0 h.0.1 k.0.1 in
      let row : r ≡ o = h.0.2 ∙ values_alike pins h.0.0 0 outputs ∙ ap (λ n. values_from c pins n 0 outputs) nets ∙ sym k.0.2 in
      ap (λ z. z ∷ rows) row ∙ ap (λ z. o ∷ z) (rows_alike net other alike outputs vs rows others h.1 k.1)

  -- the comparison of every vector
  compared_once : (cell : LibertyCell) (net other : NamedNetwork) (x y : Comparison) → net.names ≡ other.names
      → ((pins nets others : List Tern) → IsSettled net.network pins [] nets → IsSettled other.network pins [] others → nets ≡ others)
      → AreCompared b cell net x → AreCompared c cell other y → x ≡ y
  compared_once cell net other x y names alike h k =
      let outputs = outputs_of other.names cell.pins in
      let vs = vectors (length (input_pins cell.pins)) in
      let first : AreRows b net.network outputs vs h.rows = subst (λ ns. AreRows b net.network (outputs_of ns cell.pins) vs h.rows) names h.each in
      let rows : h.rows ≡ k.rows = rows_alike net.network other.network alike outputs vs h.rows k.rows first k.each in
      let found : List (List ℕ) → List (List OutputValues) → Comparison = λ ns rs. Vectors (length rs) (defined_count rs) (option_map (finding_of (outputs_of ns cell.pins)) (first_disagreement 1 rs)) in
      h.found ∙ ap (λ ns. found ns h.rows) names ∙ ap (found other.names) rows ∙ sym k.found

-- ---- the steps before it

either_once : (P Q : Type 0) (b : Bool) (r : Reason) (x y : Comparison) → Either b (refused r x) P → Either b (refused r y) Q → (P → Q → x ≡ y) → x ≡ y
either_once P Q true r x y h k f = h ∙ sym k
either_once P Q false r x y h k f = f h k

reason_once : (P Q : Type 0) (o : Option Reason) (x y : Comparison) → IsOverReason o P x → IsOverReason o Q y → (P → Q → x ≡ y) → x ≡ y
reason_once P Q (Some r) x y h k f = h ∙ sym k
reason_once P Q None x y h k f = f h k

refused_once : (r s : Reason) (x y : Comparison) → refused r x → refused s y → r ≡ s → x ≡ y
refused_once r s x y h k e = h ∙ ap (λ z. Refused z) e ∙ sym k

module _ (cell : LibertyCell) (x y : Comparison) where
  module _ (m : Module) where
    module _ (b c : Behaviour) (same : (k : ℕ) (pins : List Tern) → output_value b k pins [] ≡ output_value c k pins []) where
      network_once : (tables : List Table) (net other : NamedNetwork) → IsNetOf m tables (input_names cell) (supplies_of cell) net → IsNetOf m tables (input_names cell) (supplies_of cell) other
          → IsOverNetwork b cell net x → IsOverNetwork c cell other y → x ≡ y
      network_once tables net other is too h k =
          let names : net.names ≡ other.names = is.names ∙ sym too.names in
          let states : holds_state cell other ≡ holds_state cell net =
          ap (λ (ns : List ℕ). nat_lt 0 (length (variables_of cell.state)) || nat_lt 0 (length ns)) (too.connected.same_states ∙ sym is.connected.same_states) in
          either_once (AreCompared b cell net x) (AreCompared c cell other y) (holds_state cell net) NoTable x y h (subst (λ v. Either v (refused NoTable y) (AreCompared c cell other y)) states k)
          (λ p q. compared_once b c same cell net other x y names (λ pins. settle_alike m tables (input_names cell) (supplies_of cell) net other is too p.one_settled pins []) p q)

      tables_once : (tables : List Table) → IsOverTables b cell m tables x → IsOverTables c cell m tables y → x ≡ y
      tables_once tables (no_network e h r told v) (no_network f k s say w) = refused_once r s x y v w (one_gate_reason m tables (input_names cell) (supplies_of cell) e f r s h k told say)
      tables_once tables (no_network e h r told v) (network net is w) = absurd (net_or_reason m tables (input_names cell) (supplies_of cell) e r net is h told)
      tables_once tables (network net is v) (no_network f k s say w) = absurd (net_or_reason m tables (input_names cell) (supplies_of cell) f s net is k say)
      tables_once tables (network net is v) (network other too w) = network_once tables net other is too v w

      primitives_once : (parts : List UdpPart) → IsOverPrimitives b cell m parts x → IsOverPrimitives c cell m parts y → x ≡ y
      primitives_once parts p q =
          let made = made_once parts q.flaws q.tables p.flaws p.tables q.made p.made in
          let flawed : IsOverReason (first_reason (map udp_name parts) p.flaws m.elements) (IsOverTables c cell m q.tables y) y =
          subst (λ fs. IsOverReason (first_reason (map udp_name parts) fs m.elements) (IsOverTables c cell m q.tables y) y) made.0 q.found in
          reason_once (IsOverTables b cell m p.tables x) (IsOverTables c cell m q.tables y) (first_reason (map udp_name parts) p.flaws m.elements) x y p.found flawed
          (λ h k. tables_once p.tables h (subst (λ ts. IsOverTables c cell m ts y) made.1 k))

      elements_once : (parts : List UdpPart) → IsOverElements b cell m parts x → IsOverElements c cell m parts y → x ≡ y
      elements_once parts (drive_constants n v) (drive_constants o w) = v ∙ sym w
      elements_once parts (drive_constants n v) (drive_nets d q) = absurd (n d)
      elements_once parts (drive_nets d p) (drive_constants o w) = absurd (o d)
      elements_once parts (drive_nets d p) (drive_nets e q) = primitives_once parts p q

    meaning_once : (parts : List UdpPart) → IsOverMeaning cell m parts x → IsOverMeaning cell m parts y → x ≡ y
    meaning_once parts (no_meaning e h r told v) (no_meaning f k s say w) = refused_once r s x y v w (one_meaning_reason cell e f r s h k told say)
    meaning_once parts (no_meaning e h r told v) (meaning c means w) = absurd (not_both cell c e means h)
    meaning_once parts (meaning b means v) (no_meaning f k s say w) = absurd (not_both cell b f means k)
    meaning_once parts (meaning b means v) (meaning c too w) =
        either_once (IsOverElements b cell m parts x) (IsOverElements c cell m parts y) (nat_lt 512 (length m.elements)) (Limit Gates 512) x y v w (elements_once b c (λ k pins. (one_meaning cell b c means too).output k pins []) parts)

  module_once : (m : Option Module) (parts : List UdpPart) → IsOverModule cell m parts x → IsOverModule cell m parts y → x ≡ y
  module_once None parts h k = absurd h
  module_once (Some m) parts h k = either_once (IsOverMeaning cell m parts x) (IsOverMeaning cell m parts y) (nat_lt 12 (length (input_pins cell.pins))) (Limit Inputs 12) x y h k (meaning_once m parts)

  findings_once : (found : List Finding) (m : Option Module) (parts : List UdpPart) → IsOverFindings found cell m parts x → IsOverFindings found cell m parts y → x ≡ y
  findings_once [] m parts h k = module_once m parts h k
  findings_once (f ∷ found) m parts h k = h ∙ sym k

  pins_once : (m : Option Module) (parts : List UdpPart) → IsOverPins cell m parts x → IsOverPins cell m parts y → x ≡ y
  pins_once m parts p q =
      let same : q.findings ≡ p.findings = one_list (two_views cell m) q.findings p.findings q.are p.are in
      findings_once (compared p.findings) m parts p.found (subst (λ fs. IsOverFindings (compared fs) cell m parts y) same q.found)

  part_once : (m : Option ModulePart) (parts : List UdpPart) → IsOverPart cell m parts x → IsOverPart cell m parts y → x ≡ y
  part_once (Some (modules.Refused name construct line)) parts h k = h ∙ sym k
  part_once (Some (modules.Whole m)) parts h k = either_once (IsOverPins cell (Some m) parts x) (IsOverPins cell (Some m) parts y) (have_many_pins (two_views cell (Some m))) (Limit AllPins 64) x y h k (pins_once (Some m) parts)
  part_once None parts h k = either_once (IsOverPins cell None parts x) (IsOverPins cell None parts y) (have_many_pins (two_views cell None)) (Limit AllPins 64) x y h k (pins_once None parts)

pub one_comparison : (part : CellPart) (source : Source) (c d : Comparison) → IsComparison part source c → IsComparison part source d → c ≡ d
one_comparison (cells.Refused name construct line) source c d h k = h ∙ sym k
one_comparison (cells.Whole cell) source c d h k = part_once cell c d (module_named source.modules cell.name) source.primitives h k
