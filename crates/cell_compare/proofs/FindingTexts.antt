-- What is told of pins, of a module's elements and nets, and of outputs that differ can be shown.
use Rattle.std.proofs.Common.{◌≡◌, ◌⊎◌, inl, inr, ℕ, zero, suc, ◌+◌, refl, sym, ◌∙◌, ap, subst, arith, rules, List, [], ◌∷◌, ◌++◌, map, filter, find, length, Option, Some, None, Bool, true, false, not, ◌&&◌, ◌||◌, if◌then◌else◌, is_some, is_none, bytes_eq, slice_get, Decides}
use Rattle.std.specs.List.{flat_map, list_all, list_any}
use Rattle.std.specs.Option.{option_map, option_or}
use Rattle.std.proofs.lemmas.Slice.Eq.{bytes_eq-Decides}
use Rattle.text_scan.specs.declared.limits.Limits.{Limits}
use Rattle.tern_core.specs.declared.tern.Tern.{Tern}
use Rattle.file_rules.specs.Names.{is_graphic, are_graphic, is_name_within, is_shown}
use Rattle.file_rules.specs.Kept.{both_true}
use Rattle.name_index.specs.Places.{place_of, is_known}
use Rattle.liberty_source.specs.declared.LibertyCell.{LibertyCell}
use Rattle.liberty_source.specs.declared.LibertyPin.{LibertyPin}
use Rattle.liberty_source.specs.Library.{is_pin, is_cell}
use Rattle.verilog_source.specs.declared.module.Module.{Module}
use Rattle.verilog_source.specs.declared.module.Port.{Port}
use Rattle.verilog_source.specs.declared.module.Element.{Element}
use Rattle.verilog_source.specs.declared.module.Terminal.{Terminal}
use Rattle.verilog_source.specs.declared.module.Terminal.TheVariants as terminals
use Rattle.verilog_source.specs.declared.primitive.UdpPart.{UdpPart}
use Rattle.verilog_source.specs.declared.primitive.UdpPart.TheVariants as primitives
use Rattle.verilog_source.specs.Source.{is_port, is_supply, is_terminal, is_element, is_module, is_udp_part}
use Rattle.udp_table.specs.Table.{Table}
use Rattle.module_net.specs.declared.refusal.GateRefusal.{GateRefusal}
use Rattle.module_net.specs.declared.refusal.GateRefusal.TheVariants as gates
use Rattle.module_net.specs.Naming.{firsts, terminal_names, element_names, names_in, nets_of}
use Rattle.module_net.specs.Elements.{element_word, table_named, port_count, refused_primitive, refused_by, refused_element, or_else, first_refused}
use Rattle.module_net.specs.Building.{IsRefused}
use Rattle.pin_tables.specs.declared.table.Pin.{Pin}
use Rattle.pin_tables.specs.declared.table.PinTable.{PinTable}
use Rattle.pin_tables.specs.declared.table.Role.{Role}
use Rattle.pin_tables.specs.declared.table.FourViews.{FourViews}
use Rattle.pin_tables.specs.Tables.{has_name, role_of, said_of}
use Rattle.pin_tables.specs.Makers.{pin, as_pin, is_internal, cell_pin, cell_pins, is_supply_pin, lent_supplies, liberty_table, port_pin, module_table}
use Rattle.pin_tables.specs.Findings.{finding, absent, all_absent, findings_at, at_view, at_pin, first_pins, pins_of, viewed_pins, unknown_to, AreNamesOf, lacking, ArePinFindings}
use Rattle.verdict_text.specs.declared.finding.Code.{Code}
use Rattle.verdict_text.specs.declared.finding.View.{View}
use Rattle.verdict_text.specs.declared.finding.View.TheVariants.{Verilog, Cdl, Lef}
use Rattle.verdict_text.specs.declared.finding.Finding.{Finding}
use Rattle.verdict_text.specs.declared.reason.Reason.{Reason}
use Rattle.cell_compare.specs.declared.reasons.Flaw.{Flaw}
use Rattle.cell_compare.specs.declared.reasons.Flaw.TheVariants.{NotRead, BadRow, RowsConflict, TooManyInputs}
use Rattle.cell_compare.specs.declared.rows.Output.{Output}
use Rattle.cell_compare.specs.declared.tally.Disagreement.{Disagreement}
use Rattle.cell_compare.specs.Reasons.{IsFlaw, reason_of, IsGateReason}
use Rattle.cell_compare.specs.Parts.{AreMade, IsPartFlawed, flaw_by, flaw_at, element_flaw, element_reason, first_reason}
use Rattle.cell_compare.specs.Pins.{two_views, verilog_table, compared}
use Rattle.cell_compare.specs.Rows.{outputs_of, output_at}
use Rattle.cell_compare.specs.Compare.{output_name, finding_of}
use Rattle.cell_compare.specs.Telling.{reason_texts, finding_texts, AreGraphic}
use Rattle.cell_compare.proofs.Graphic.{all_at, all_joined, all_parts, all_cons, all_mapped, all_flat, all_filtered, within_graphic, shown_graphic, one_graphic}

-- ---- pins

pin_graphic : Pin → Bool
pin_graphic p = are_graphic p.name

finding_graphic : Finding → Bool
finding_graphic f = list_all are_graphic (finding_texts f)

named_finding : (code : Code) (name : List ℕ) (view : View) → are_graphic name ≡ true → finding_graphic (finding code (Some name) view) ≡ true
unfolding finding_graphic
named_finding code name view h = rw h refl

one_finding : (f : Finding) → finding_graphic f ≡ true → list_all finding_graphic (f ∷ []) ≡ true
one_finding f h = rw h refl

absent_graphic : (view : View) (table : Option PinTable) → list_all finding_graphic (absent view table) ≡ true
unfolding finding_graphic
absent_graphic view None = refl
absent_graphic view (Some table) = refl

at_graphic : (view : View) (name : List ℕ) (code : Option Code) → are_graphic name ≡ true → list_all finding_graphic (findings_at view name code) ≡ true
at_graphic view name None h = refl
at_graphic view name (Some code) h = one_finding _ (named_finding code name view h)

view_graphic : (view : View) (table : Option PinTable) (p : Pin) → pin_graphic p ≡ true → list_all finding_graphic (at_view view table p) ≡ true
unfolding pin_graphic
view_graphic view None p h = refl
view_graphic view (Some table) p h = at_graphic view p.name _ h

at_pin_graphic : (views : FourViews) (p : Pin) → pin_graphic p ≡ true → list_all finding_graphic (at_pin views p) ≡ true
at_pin_graphic views p h =
    all_joined finding_graphic (at_view Verilog views.verilog p ++ at_view Cdl views.cdl p) (at_view Lef views.lef p)
    (all_joined finding_graphic (at_view Verilog views.verilog p) (at_view Cdl views.cdl p) (view_graphic Verilog views.verilog p h) (view_graphic Cdl views.cdl p h))
    (view_graphic Lef views.lef p h)

first_graphic : (before pins : List Pin) → list_all pin_graphic pins ≡ true → list_all pin_graphic (first_pins before pins) ≡ true
first_graphic before [] h = refl
first_graphic before (p ∷ pins) h =
    let b : (pin_graphic p ≡ true) × (list_all pin_graphic pins ≡ true) = both_true _ _ h in
    by_test (is_some (said_of before p.name)) b.0 (first_graphic (before ++ p ∷ []) pins b.1)
  where
    by_test : (t : Bool) → pin_graphic p ≡ true → list_all pin_graphic (first_pins (before ++ p ∷ []) pins) ≡ true → list_all pin_graphic ((if t then [] else p ∷ []) ++ first_pins (before ++ p ∷ []) pins) ≡ true
    by_test true here rest = rest
    by_test false here rest = all_cons pin_graphic p (first_pins (before ++ p ∷ []) pins) here rest

-- a name that some pin has
found_graphic : (pins : List Pin) (name : List ℕ) → list_all pin_graphic pins ≡ true → is_some (said_of pins name) ≡ true → are_graphic name ≡ true
unfolding pin_graphic
found_graphic [] name h e = absurd cc
found_graphic (p ∷ pins) name h e = by_test (bytes_eq name p.name) refl (λ s. found_graphic pins name (both_true _ _ h).1 s) e
  where
    by_test : (t : Bool) → bytes_eq name p.name ≡ t → (is_some (said_of pins name) ≡ true → are_graphic name ≡ true)
        → is_some (option_map role_of (if t then Some p else find (has_name name) pins)) ≡ true → are_graphic name ≡ true
    by_test true f rest s = subst (λ x. are_graphic x ≡ true) (sym ((bytes_eq-Decides name p.name).0 f)) (both_true _ _ h).0
    by_test false f rest s = rest s

among_self : (names : List (List ℕ)) (k : ℕ) (name : List ℕ) → slice_get names k ≡ Some name → list_any (bytes_eq name) names ≡ true
among_self [] k name e = absurd cc
among_self (n ∷ names) zero name e =
    let same : name ≡ n = cc in
    let eq : bytes_eq name n ≡ true = (bytes_eq-Decides name n).1 same in
    rw eq refl
among_self (n ∷ names) (suc k) name e = by_test (bytes_eq name n) (among_self names k name e)
  where
    by_test : (t : Bool) → list_any (bytes_eq name) names ≡ true → (t || list_any (bytes_eq name) names) ≡ true
    by_test true rest = refl
    by_test false rest = rest

-- what holds at each place holds of all
all_by_places : (names : List (List ℕ)) → ((k : ℕ) (name : List ℕ) → slice_get names k ≡ Some name → are_graphic name ≡ true) → list_all are_graphic names ≡ true
all_by_places [] h = refl
all_by_places (n ∷ names) h = all_cons are_graphic n names (h 0 n refl) (all_by_places names (λ k name e. h (suc k) name e))

lacking_graphic : (name : List ℕ) → are_graphic name ≡ true → finding_graphic (lacking name) ≡ true
lacking_graphic name h = named_finding _ name _ h

texts_of_all : (found : List Finding) → list_all finding_graphic found ≡ true → AreGraphic (flat_map finding_texts found)
unfolding finding_graphic
texts_of_all found h = all_flat finding_graphic are_graphic finding_texts (λ f g. g) found h

findings_graphic : (views : FourViews) (found : List Finding) → list_all pin_graphic views.liberty.pins ≡ true → list_all pin_graphic (viewed_pins views) ≡ true → ArePinFindings views found
    → list_all finding_graphic found ≡ true
findings_graphic views found liberty viewed are =
    let others : List (List ℕ) = are.0 in
    let unknown : list_all pin_graphic (unknown_to views.liberty.pins (viewed_pins views)) ≡ true = all_filtered pin_graphic (λ p. is_none (said_of views.liberty.pins p.name)) (viewed_pins views) viewed in
    let names : list_all are_graphic others ≡ true =
    all_by_places others (λ k name e. found_graphic _ name unknown (sym (are.1.1 name) ∙ among_self others k name e)) in
    let absences : list_all finding_graphic (all_absent views) ≡ true =
    all_joined finding_graphic (absent Verilog views.verilog ++ absent Cdl views.cdl) (absent Lef views.lef)
    (all_joined finding_graphic (absent Verilog views.verilog) (absent Cdl views.cdl) (absent_graphic Verilog views.verilog) (absent_graphic Cdl views.cdl)) (absent_graphic Lef views.lef) in
    let own : list_all finding_graphic (flat_map (at_pin views) (first_pins [] views.liberty.pins)) ≡ true =
    all_flat pin_graphic finding_graphic (at_pin views) (at_pin_graphic views) (first_pins [] views.liberty.pins) (first_graphic [] views.liberty.pins liberty) in
    let lacked : list_all finding_graphic (map lacking others) ≡ true = all_mapped are_graphic finding_graphic lacking lacking_graphic others names in
    subst (λ fs. list_all finding_graphic fs ≡ true) (sym are.2)
    (all_joined finding_graphic (all_absent views ++ flat_map (at_pin views) (first_pins [] views.liberty.pins)) (map lacking others)
    (all_joined finding_graphic (all_absent views) (flat_map (at_pin views) (first_pins [] views.liberty.pins)) absences own) lacked)

module _ (limits : Limits) where
  cell_pin_graphic : (p : LibertyPin) → is_pin limits p ≡ true → list_all pin_graphic (cell_pin p) ≡ true
  unfolding pin_graphic
  cell_pin_graphic p h = by_test (is_internal p.direction)
    where
      named : are_graphic p.name ≡ true
      named = within_graphic limits p.name (both_true _ _ (both_true _ _ h).0).0

      by_test : (t : Bool) → list_all pin_graphic (if t then [] else as_pin p ∷ []) ≡ true
      by_test true = refl
      by_test false = rw named refl

  lent_nothing : (pins : List LibertyPin) → list_all pin_graphic (lent_supplies pins []) ≡ true
  lent_nothing pins = by_test (list_any is_supply_pin pins)
    where
      by_test : (t : Bool) → list_all pin_graphic (if t then [] else []) ≡ true
      by_test true = refl
      by_test false = refl

  liberty_graphic : (cell : LibertyCell) → list_all (is_pin limits) cell.pins ≡ true → list_all pin_graphic (liberty_table cell []).pins ≡ true
  liberty_graphic cell h =
      all_joined pin_graphic (cell_pins cell.pins) (lent_supplies cell.pins []) (all_flat (is_pin limits) pin_graphic cell_pin cell_pin_graphic cell.pins h) (lent_nothing cell.pins)

  port_graphic : (liberty : List Pin) (p : Port) → is_port limits p ≡ true → pin_graphic (port_pin liberty p) ≡ true
  unfolding pin_graphic
  port_graphic liberty p h = within_graphic limits p.name (both_true _ _ h).0

  ports_graphic : (m : Module) → is_module limits m ≡ true → list_all (is_port limits) m.ports ≡ true
  ports_graphic m h = (both_true _ _ (both_true _ _ (both_true _ _ (both_true _ _ h).0).0).0).1

  viewed_graphic : (cell : LibertyCell) (m : Option Module) → ((n : Module) → m ≡ Some n → is_module limits n ≡ true) → list_all pin_graphic (viewed_pins (two_views cell m)) ≡ true
  viewed_graphic cell None h = refl
  viewed_graphic cell (Some m) h =
      let table : PinTable = module_table m (liberty_table cell []) in
      let ports : list_all pin_graphic table.pins ≡ true = all_mapped (is_port limits) pin_graphic (port_pin (liberty_table cell []).pins) (port_graphic (liberty_table cell []).pins) m.ports (ports_graphic m (h m refl)) in
      all_joined pin_graphic (table.pins ++ []) [] (all_joined pin_graphic table.pins [] ports refl) refl

  pub pins_told : (cell : LibertyCell) (m : Option Module) (found : List Finding) → list_all (is_pin limits) cell.pins ≡ true → ((n : Module) → m ≡ Some n → is_module limits n ≡ true)
      → ArePinFindings (two_views cell m) found → AreGraphic (flat_map finding_texts (compared found))
  pins_told cell m found pins modules are =
      texts_of_all (compared found) (all_filtered finding_graphic _ found (findings_graphic (two_views cell m) found (liberty_graphic cell pins) (viewed_graphic cell m modules) are))

  -- ---- elements and nets

  terminal_graphic : (t : Terminal) → is_terminal limits t ≡ true → list_all are_graphic (terminal_names t) ≡ true
  terminal_graphic (terminals.Net n) h = one_graphic n (within_graphic limits n h)
  terminal_graphic (terminals.Constant v) h = refl

  element_graphic : (e : Element) → is_element limits e ≡ true → list_all are_graphic (element_names e) ≡ true
  unfolding element_names
  element_graphic e h = all_flat (is_terminal limits) are_graphic terminal_names terminal_graphic e.terminals (both_true _ _ h).1

  firsts_graphic : (known names : List (List ℕ)) → list_all are_graphic names ≡ true → list_all are_graphic (firsts known names) ≡ true
  firsts_graphic known [] h = refl
  firsts_graphic known (n ∷ names) h =
      let b : (are_graphic n ≡ true) × (list_all are_graphic names ≡ true) = both_true _ _ h in
      by_test (is_known n known) b.0 (firsts_graphic known names b.1) (firsts_graphic (known ++ n ∷ []) names b.1)
    where
      by_test : (t : Bool) → are_graphic n ≡ true → list_all are_graphic (firsts known names) ≡ true → list_all are_graphic (firsts (known ++ n ∷ []) names) ≡ true
          → list_all are_graphic (if t then firsts known names else n ∷ firsts (known ++ n ∷ []) names) ≡ true
      by_test true here same more = same
      by_test false here same more = all_cons are_graphic n (firsts (known ++ n ∷ []) names) here more

  nets_graphic : (m : Module) → is_module limits m ≡ true → list_all are_graphic (nets_of m) ≡ true
  nets_graphic m h =
      let elements : list_all are_graphic (flat_map element_names m.elements) ≡ true = all_flat (is_element limits) are_graphic element_names element_graphic m.elements (both_true _ _ h).1 in
      let supplies : list_all are_graphic (map (λ (s : List ℕ × Tern). s.0) m.supplies) ≡ true =
      all_mapped (is_supply limits) are_graphic (λ s. s.0) (λ s g. within_graphic limits s.0 (both_true _ _ g).0) m.supplies (both_true _ _ (both_true _ _ h).0).1 in
      let ports : list_all are_graphic (map (λ (p : Port). p.name) m.ports) ≡ true =
      all_mapped (is_port limits) are_graphic (λ p. p.name) (λ p g. within_graphic limits p.name (both_true _ _ g).0) m.ports (ports_graphic m h) in
      let ns : List (List ℕ) = map (λ (p : Port). p.name) m.ports in
      let ms : List (List ℕ) = map (λ (s : List ℕ × Tern). s.0) m.supplies in
      firsts_graphic [] (names_in m) (all_joined are_graphic (ns ++ ms) (flat_map element_names m.elements) (all_joined are_graphic ns ms ports supplies) elements)

  refusal_graphic : GateRefusal → Bool
  refusal_graphic gates.NoMemory = true
  refusal_graphic (gates.Loop net) = are_graphic net
  refusal_graphic (gates.TwoDrivers net) = are_graphic net
  refusal_graphic (gates.UnknownUdp name) = are_graphic name
  refusal_graphic (gates.PortCount label) = are_graphic label

  count_graphic : (t : Bool) (e : Element) (r : GateRefusal) → is_element limits e ≡ true → port_count t e ≡ Some r → refusal_graphic r ≡ true
  unfolding refusal_graphic
  count_graphic true e r h f = absurd cc
  count_graphic false e r h f =
      let same : gates.PortCount e.label ≡ r = cc in
      subst (λ x. refusal_graphic x ≡ true) same (within_graphic limits e.label (both_true _ _ (both_true _ _ h).0).1)

  primitive_graphic : (t : Option Table) (e : Element) (r : GateRefusal) → is_element limits e ≡ true → refused_primitive t e ≡ Some r → refusal_graphic r ≡ true
  unfolding refusal_graphic
  primitive_graphic None e r h f =
      let same : gates.UnknownUdp e.kind ≡ r = cc in
      subst (λ x. refusal_graphic x ≡ true) same (within_graphic limits e.kind (both_true _ _ (both_true _ _ h).0).0)
  primitive_graphic (Some t) e r h f = count_graphic _ e r h f

  element_refused : (word : Option _) (tables : List Table) (e : Element) (r : GateRefusal) → is_element limits e ≡ true → refused_by word tables e ≡ Some r → refusal_graphic r ≡ true
  element_refused (Some w) tables e r h f = count_graphic _ e r h f
  element_refused None tables e r h f = primitive_graphic (table_named tables e.kind) e r h f

  elements_refused : (tables : List Table) (elements : List Element) (r : GateRefusal) → list_all (is_element limits) elements ≡ true → first_refused tables elements ≡ Some r → refusal_graphic r ≡ true
  elements_refused tables [] r h f = absurd cc
  elements_refused tables (e ∷ elements) r h f =
      let b : (is_element limits e ≡ true) × (list_all (is_element limits) elements ≡ true) = both_true _ _ h in
      by_first (refused_element tables e) refl b.0 (λ k. elements_refused tables elements r b.1 k) f
    where
      by_first : (o : Option GateRefusal) → refused_element tables e ≡ o → is_element limits e ≡ true → (first_refused tables elements ≡ Some r → refusal_graphic r ≡ true)
          → or_else o (first_refused tables elements) ≡ Some r → refusal_graphic r ≡ true
      by_first (Some x) g here rest k = let same : x ≡ r = cc in element_refused (element_word e) tables e r here (g ∙ ap Some same)
      by_first None g here rest k = rest k

  pub gates_told : (m : Module) (tables : List Table) (inputs : List (List ℕ)) (supplies : List (List ℕ × Tern)) (e : GateRefusal) (r : Reason) → is_module limits m ≡ true
      → IsRefused m tables inputs supplies e → IsGateReason e r → AreGraphic (reason_texts r)
  unfolding refusal_graphic
  gates_told m tables inputs supplies gates.NoMemory r h f g = absurd g
  gates_told m tables inputs supplies (gates.Loop net) r h f g = rw g (one_graphic net (all_at are_graphic (nets_of m) f.1.0 net (nets_graphic m h) f.1.1))
  gates_told m tables inputs supplies (gates.TwoDrivers net) r h f g = rw g (one_graphic net (all_at are_graphic (nets_of m) f.1.0 net (nets_graphic m h) f.1.1))
  gates_told m tables inputs supplies (gates.UnknownUdp name) r h f g = rw g (one_graphic name (elements_refused tables m.elements (gates.UnknownUdp name) (both_true _ _ h).1 f))
  gates_told m tables inputs supplies (gates.PortCount label) r h f g = rw g (one_graphic label (elements_refused tables m.elements (gates.PortCount label) (both_true _ _ h).1 f))

  -- ---- primitives

  flaw_graphic : Flaw → Bool
  flaw_graphic (NotRead construct line) = are_graphic construct
  flaw_graphic (BadRow row) = true
  flaw_graphic (RowsConflict first second) = true
  flaw_graphic TooManyInputs = true

  flaw_if_graphic : Option Flaw → Bool
  flaw_if_graphic None = true
  flaw_if_graphic (Some f) = flaw_graphic f

  built_flaw : (e : Rattle.udp_table.specs.declared.refusal.UdpRefusal.UdpRefusal) (f : Flaw) → IsFlaw e f → flaw_graphic f ≡ true
  unfolding flaw_graphic
  built_flaw Rattle.udp_table.specs.declared.refusal.UdpRefusal.TheVariants.NoMemory f h = absurd h
  built_flaw (Rattle.udp_table.specs.declared.refusal.UdpRefusal.TheVariants.BadRow row) f h = rw h refl
  built_flaw (Rattle.udp_table.specs.declared.refusal.UdpRefusal.TheVariants.RowsConflict a b) f h = rw h refl
  built_flaw (Rattle.udp_table.specs.declared.refusal.UdpRefusal.TheVariants.TooManyInputs n) f h = rw h refl

  part_flaw : (p : UdpPart) (f : Flaw) → is_udp_part limits p ≡ true → IsPartFlawed p f → flaw_graphic f ≡ true
  unfolding flaw_graphic
  part_flaw (primitives.Whole u) f h g = built_flaw g.0 f g.2
  part_flaw (primitives.Refused name construct line) f h g = rw g (shown_graphic construct (both_true _ _ h).1)

  flaws_graphic : (parts : List UdpPart) (flaws : List (Option Flaw)) (tables : List Table) → list_all (is_udp_part limits) parts ≡ true → AreMade parts flaws tables → list_all flaw_if_graphic flaws ≡ true
  unfolding flaw_if_graphic
  flaws_graphic [] [] [] h a = refl
  flaws_graphic [] [] (t ∷ tables) h a = absurd a
  flaws_graphic [] (f ∷ flaws) tables h a = absurd a
  flaws_graphic (p ∷ parts) [] tables h a = absurd a
  flaws_graphic (p ∷ parts) (Some f ∷ flaws) tables h a =
      all_cons flaw_if_graphic (Some f) flaws (part_flaw p f (both_true _ _ h).0 a.0) (flaws_graphic parts flaws tables (both_true _ _ h).1 a.1)
  flaws_graphic (p ∷ parts) (None ∷ flaws) [] h a = absurd a
  flaws_graphic (p ∷ parts) (None ∷ flaws) (t ∷ tables) h a = all_cons flaw_if_graphic None flaws refl (flaws_graphic parts flaws tables (both_true _ _ h).1 a.1)

  reason_graphic : (name : List ℕ) (f : Flaw) → are_graphic name ≡ true → flaw_graphic f ≡ true → AreGraphic (reason_texts (reason_of name f))
  unfolding flaw_graphic
  reason_graphic name (NotRead construct line) h g = one_graphic construct g
  reason_graphic name (BadRow row) h g = one_graphic name h
  reason_graphic name (RowsConflict first second) h g = one_graphic name h
  reason_graphic name TooManyInputs h g = refl

  flaw_found : (flaws : List (Option Flaw)) (place : Option ℕ) (f : Flaw) → list_all flaw_if_graphic flaws ≡ true → flaw_at flaws place ≡ Some f → flaw_graphic f ≡ true
  unfolding flaw_if_graphic
  flaw_found flaws None f h e = absurd cc
  flaw_found flaws (Some k) f h e = by_place (slice_get flaws k) refl e
    where
      by_place : (o : Option (Option Flaw)) → slice_get flaws k ≡ o → flaw_by o ≡ Some f → flaw_graphic f ≡ true
      by_place None g s = absurd cc
      by_place (Some x) g s = subst (λ y. flaw_if_graphic y ≡ true) s (all_at flaw_if_graphic flaws k x h g)

  element_told : (names : List (List ℕ)) (flaws : List (Option Flaw)) (e : Element) (r : Reason) → is_element limits e ≡ true → list_all flaw_if_graphic flaws ≡ true → element_reason names flaws e ≡ Some r
      → AreGraphic (reason_texts r)
  element_told names flaws e r h k s = by_flaw (is_some (element_word e)) s
    where
      kind : are_graphic e.kind ≡ true
      kind = within_graphic limits e.kind (both_true _ _ (both_true _ _ h).0).0

      by_place : (o : Option Flaw) → flaw_at flaws (place_of names e.kind) ≡ o → option_map (reason_of e.kind) o ≡ Some r → AreGraphic (reason_texts r)
      by_place None g t = absurd cc
      by_place (Some f) g t =
          let same : reason_of e.kind f ≡ r = cc in
          subst (λ x. AreGraphic (reason_texts x)) same (reason_graphic e.kind f kind (flaw_found flaws (place_of names e.kind) f k g))

      by_flaw : (t : Bool) → option_map (reason_of e.kind) (if t then None else flaw_at flaws (place_of names e.kind)) ≡ Some r → AreGraphic (reason_texts r)
      by_flaw true t = absurd cc
      by_flaw false t = by_place (flaw_at flaws (place_of names e.kind)) refl t

  reasons_told : (names : List (List ℕ)) (flaws : List (Option Flaw)) (elements : List Element) (r : Reason) → list_all (is_element limits) elements ≡ true → list_all flaw_if_graphic flaws ≡ true
      → first_reason names flaws elements ≡ Some r → AreGraphic (reason_texts r)
  reasons_told names flaws [] r h k s = absurd cc
  reasons_told names flaws (e ∷ elements) r h k s =
      let b : (is_element limits e ≡ true) × (list_all (is_element limits) elements ≡ true) = both_true _ _ h in
      by_first (element_reason names flaws e) refl b.0 (λ t. reasons_told names flaws elements r b.1 k t) s
    where
      by_first : (o : Option Reason) → element_reason names flaws e ≡ o → is_element limits e ≡ true → (first_reason names flaws elements ≡ Some r → AreGraphic (reason_texts r))
          → option_or o (first_reason names flaws elements) ≡ Some r → AreGraphic (reason_texts r)
      by_first None g here rest t = rest t
      by_first (Some x) g here rest t = let same : x ≡ r = cc in element_told names flaws e r here k (g ∙ ap Some same)

  pub primitives_told : (names : List (List ℕ)) (parts : List UdpPart) (flaws : List (Option Flaw)) (tables : List Table) (elements : List Element) (r : Reason)
      → list_all (is_udp_part limits) parts ≡ true → list_all (is_element limits) elements ≡ true → AreMade parts flaws tables → first_reason names flaws elements ≡ Some r → AreGraphic (reason_texts r)
  primitives_told names parts flaws tables elements r h k made s = reasons_told names flaws elements r k (flaws_graphic parts flaws tables h made) s

  -- ---- outputs

  output_graphic : Output → Bool
  output_graphic o = are_graphic o.name

  output_if : (o : Option Output) → ((x : Output) → o ≡ Some x → output_graphic x ≡ true) → are_graphic (output_name o) ≡ true
  unfolding output_graphic
  output_if None h = refl
  output_if (Some x) h = h x refl

  pub output_told : (names : List (List ℕ)) (pins : List LibertyPin) (d : Disagreement) → list_all (is_pin limits) pins ≡ true → AreGraphic (finding_texts (finding_of (outputs_of names pins) d))
  unfolding output_graphic
  output_told names pins d h =
      let outs : list_all output_graphic (outputs_of names pins) ≡ true =
      all_mapped (is_pin limits) output_graphic (output_at names) (λ p g. within_graphic limits p.name (both_true _ _ (both_true _ _ g).0).0) _ (all_filtered (is_pin limits) _ pins h) in
      one_graphic (output_name (slice_get (outputs_of names pins) d.output)) (output_if (slice_get (outputs_of names pins) d.output) (λ x e. all_at output_graphic (outputs_of names pins) d.output x outs e))
