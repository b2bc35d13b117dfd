-- What is kept of a module, behind its whole text and where it is refused.
use Rattle.std.proofs.Common.{◌≡◌, ℕ, zero, suc, ◌≤◌, Bool, true, false, List, Ok, None, refl, sym, subst, map}
use Rattle.std.specs.List.{list_all}
use Rattle.text_scan.specs.declared.limits.Limits.{Limits}
use Rattle.file_rules.specs.Names.{is_name_within, is_distinct}
use Rattle.verilog_source.specs.Source.{is_port, is_module, port_name as port_name_of}
use Rattle.grammar.specs.Rule.{none, one}
use Rattle.verilog_directives.specs.declared.left.Left.{Left}
use Rattle.verilog_looks.specs.declared.look.Look.{Look}
use Rattle.verilog_looks.specs.declared.look.Look.TheVariants as variants
use Rattle.verilog_looks.specs.Looks as looks
use Rattle.verilog_looks.specs.Looks.{look_of}
use Rattle.verilog_modules.specs.declared.module_text.ModuleText.{ModuleText}
use Rattle.verilog_modules.specs.declared.module_phase.ModuleAction.{ModuleAction}
use Rattle.verilog_modules.specs.declared.module_phase.ModuleAction.TheVariants as actions
use Rattle.verilog_modules.specs.Ports.{undirected}
use Rattle.verilog_modules.specs.ModuleActions.{perform, no_module}
use Rattle.verilog_modules.specs.ModuleGrammar.{ModuleRule, act, is_beside, is_off, port_name, net_port, port, further_ports, declared_name, further_names, names_end, names, declaration, closing, parentheses, delay_value, delay, last, terminal, further_terminals, terminals_end, terminals, connections, instance, further_instances, instances_end, instances, delayed, elements, beside_line, macro_line, specified, specify_end, specify, item, module_end, items, header_end, ports_end, listed, ports, module_body}
use Rattle.verilog_modules.proofs.Holding.{Keeps, keeps_none, keeps_before, keeps_one, keeps_seq, keeps_alt, keeps_many, keeps_to}
use Rattle.verilog_modules.proofs.Kept.{is_gatelike, whole_ports}
use Rattle.verilog_modules.proofs.KeptSteps.{Holds, Calm, Tells, is_calm, calm, Kinded, Labelled, primitive_kind, gate_kind, label, output_label, instance_end, module_end as ended, refuses}

-- a whole module has a direction for each port
pub record Read (limits : Limits) (s : ModuleText) : Type 0 where
  pub holds : Holds limits s
  pub directed : undirected s.ports ≡ None

gate_look : (l : Look) → looks.is_gate l ≡ true → is_gatelike l ≡ true
gate_look variants.Gate h = refl
gate_look _ h = absurd (cc)

buffer_look : (l : Look) → looks.is_buffer l ≡ true → is_gatelike l ≡ true
buffer_look variants.Buffer h = refl
buffer_look _ h = absurd (cc)

module _ (source : List ℕ) (limits : Limits) (low : 4 ≤ limits.name) (high : limits.name ≤ 128) where
  abbrev H : ModuleText → Type 0
  H s = Holds limits s

  abbrev K : ModuleText → Type 0
  K s = Kinded source limits low high s

  abbrev L : ModuleText → Type 0
  L s = Labelled source limits low high s

  -- ---- what holds behind items that add nothing to the word and the label of an instance

  module _ (P : ModuleText → Type 0) (holds : (s : ModuleText) → P s → Holds limits s) (stays : (s m : ModuleText) → Calm limits s m → P s → P m) where
    calm_one : (p : Left → Bool) (a : ModuleAction) (next : Left → ModuleRule) (W : ModuleText → Type 0) → is_calm a ≡ true
        → ((x : Left) → p x ≡ true → Keeps Tells P (next x) W) → Keeps Tells P (one p (λ t s. perform source limits a t s) next) W
    calm_one p a next W q after =
        keeps_one Tells P P W p (λ t s. perform source limits a t s) next
        (λ x s m k h e. stays s m (calm source limits low high a x s m q (holds s h) e) h)
        (λ x s e k h f. refuses source limits low high a x s e (holds s h) f) after

    calm_act : (p : Look → Bool) (a : ModuleAction) (follows : ModuleRule) (W : ModuleText → Type 0) → is_calm a ≡ true
        → Keeps Tells P follows W → Keeps Tells P (act source limits p a follows) W
    calm_act p a follows W q after = calm_one (λ t. p (look_of source t)) a (λ t. follows) W q (λ x k. after)

    alone : (p : Look → Bool) (a : ModuleAction) → is_calm a ≡ true → Keeps Tells P (act source limits p a none) P
    alone p a q = calm_act p a none P q (keeps_none Tells P)

    -- ---- delays

    closing_kept : Keeps Tells P (closing source limits) P
    unfolding closing
    closing_kept = alone looks.is_close actions.Keep refl

    parentheses_kept : (n : ℕ) → Keeps Tells P (parentheses source limits n) P
    unfolding parentheses
    parentheses_kept zero = alone looks.is_open actions.Keep refl
    parentheses_kept (suc n) =
        calm_act looks.is_open actions.Keep _ P refl
        (keeps_seq Tells P P P _ _ (keeps_many Tells P _ (keeps_alt Tells P P _ _ (alone looks.is_between actions.Keep refl) (parentheses_kept n))) closing_kept)

    delay_value_kept : (n : ℕ) → Keeps Tells P (delay_value source limits n) P
    unfolding delay_value
    delay_value_kept n = keeps_alt Tells P P _ _ (alone looks.is_number actions.Keep refl) (keeps_alt Tells P P _ _ (alone looks.is_name actions.CheckName refl) (parentheses_kept n))

    delay_kept : (n : ℕ) → Keeps Tells P (delay source limits n) P
    unfolding delay
    delay_kept n = calm_act looks.is_hash actions.Keep _ P refl (delay_value_kept n)

    -- ---- the header

    port_name_kept : Keeps Tells P (port_name source limits) P
    unfolding port_name
    port_name_kept = alone looks.is_name actions.AddPort refl

    net_port_kept : Keeps Tells P (net_port source limits) P
    unfolding net_port
    net_port_kept = keeps_alt Tells P P _ _ (calm_act looks.is_net actions.Keep _ P refl port_name_kept) port_name_kept

    port_kept : Keeps Tells P (port source limits) P
    unfolding port
    port_kept = keeps_alt Tells P P _ _ (calm_act looks.is_direction actions.Direct _ P refl net_port_kept) port_name_kept

    further_ports_kept : Keeps Tells P (further_ports source limits) P
    unfolding further_ports
    further_ports_kept = keeps_many Tells P _ (calm_act looks.is_comma actions.Keep _ P refl port_kept)

    -- ---- declarations

    declared_name_kept : Keeps Tells P (declared_name source limits) P
    unfolding declared_name
    declared_name_kept = alone looks.is_name actions.Declare refl

    further_names_kept : Keeps Tells P (further_names source limits) P
    unfolding further_names
    further_names_kept = keeps_many Tells P _ (calm_act looks.is_comma actions.Keep _ P refl declared_name_kept)

    names_end_kept : Keeps Tells P (names_end source limits) P
    unfolding names_end
    names_end_kept = alone looks.is_semicolon actions.Keep refl

    names_kept : Keeps Tells P (names source limits) P
    unfolding names
    names_kept = keeps_seq Tells P P P _ _ (keeps_seq Tells P P P _ _ declared_name_kept further_names_kept) names_end_kept

    declaration_kept : Keeps Tells P (declaration source limits) P
    unfolding declaration
    declaration_kept = calm_act looks.is_declaration actions.BeginDeclaration _ P refl names_kept

    -- ---- specify blocks

    beside_line_kept : (line : ℕ) → Keeps Tells P (beside_line source limits line) P
    unfolding beside_line
    beside_line_kept line =
        keeps_seq Tells P P P _ _ (keeps_many Tells P _ (calm_one (is_beside source line) actions.Keep _ P refl (λ x k. keeps_none Tells P)))
        (keeps_before Tells P (is_off source line))

    macro_line_kept : Keeps Tells P (macro_line source limits) P
    unfolding macro_line
    macro_line_kept = calm_one (λ t. looks.is_macro (look_of source t)) actions.Keep _ P refl (λ x k. beside_line_kept x.token.span.line)

    specified_kept : Keeps Tells P (specified source limits) P
    unfolding specified
    specified_kept = keeps_many Tells P _ (keeps_alt Tells P P _ _ (alone looks.is_specified actions.Keep refl) macro_line_kept)

    specify_end_kept : Keeps Tells P (specify_end source limits) P
    unfolding specify_end
    specify_end_kept = alone looks.is_end_specify actions.Keep refl

    specify_kept : Keeps Tells P (specify source limits) P
    unfolding specify
    specify_kept = calm_act looks.is_specify actions.Keep _ P refl (keeps_seq Tells P P P _ _ specified_kept specify_end_kept)

    -- ---- terminals

    last_kept : (o : Bool) → Keeps Tells P (last source limits o) P
    last_kept true = keeps_before Tells P (λ t. looks.is_close (look_of source t))
    last_kept false = keeps_none Tells P

    terminal_kept : (o : Bool) → Keeps Tells P (terminal source limits o) P
    unfolding terminal
    terminal_kept o = keeps_alt Tells P P _ _ (alone looks.is_name actions.AddNet refl) (calm_act looks.is_constant actions.AddConstant _ P refl (last_kept o))

    further_terminals_kept : (o : Bool) → Keeps Tells P (further_terminals source limits o) P
    unfolding further_terminals
    further_terminals_kept o = keeps_many Tells P _ (calm_act looks.is_comma actions.Keep _ P refl (terminal_kept o))

  -- ---- instances

  h_holds : (s : ModuleText) → H s → Holds limits s
  h_holds s h = h

  h_stays : (s m : ModuleText) → Calm limits s m → H s → H m
  h_stays s m c h = c.holds

  k_holds : (s : ModuleText) → K s → Holds limits s
  k_holds s h = h.holds

  k_stays : (s m : ModuleText) → Calm limits s m → K s → K m
  k_stays s m c h = record { holds = c.holds; kind = subst (λ z. is_name_within limits z ≡ true) (sym c.kind) h.kind }

  l_holds : (s : ModuleText) → L s → Holds limits s
  l_holds s h = h.holds

  l_stays : (s m : ModuleText) → Calm limits s m → L s → L m
  l_stays s m c h = record {
    holds = c.holds;
    kind = subst (λ z. is_name_within limits z ≡ true) (sym c.kind) h.kind;
    label = subst (λ z. is_name_within limits z ≡ true) (sym c.label) h.label;
  }

  -- an item behind which something else holds
  step : (P Q W : ModuleText → Type 0) → ((s : ModuleText) → P s → Holds limits s) → (p : Look → Bool) (a : ModuleAction) (follows : ModuleRule)
      → ((x : Left) (s m : ModuleText) → p (look_of source x) ≡ true → P s → perform source limits a x s ≡ Ok m → Q m)
      → Keeps Tells Q follows W → Keeps Tells P (act source limits p a follows) W
  step P Q W holds p a follows to after =
      keeps_one Tells P Q W (λ t. p (look_of source t)) (λ t s. perform source limits a t s) (λ t. follows) to
      (λ x s e k h f. refuses source limits low high a x s e (holds s h) f) (λ x k. after)

  terminals_end_kept : Keeps Tells L (terminals_end source limits) K
  unfolding terminals_end
  terminals_end_kept = step L K K l_holds looks.is_close actions.EndInstance none (λ x s m k h e. instance_end source limits low high x s m h e) (keeps_none Tells K)

  terminals_kept : (o : Bool) (P : ModuleText → Type 0) (a : ModuleAction) → Keeps Tells P (act source limits looks.is_name a none) L → Keeps Tells P (terminals source limits o a) K
  unfolding terminals
  terminals_kept o P a first = keeps_seq Tells P L K _ _ (keeps_seq Tells P L L _ _ first (further_terminals_kept L l_holds l_stays o)) terminals_end_kept

  net_connections_kept : (o : Bool) → Keeps Tells L (connections source limits o actions.AddNet) K
  unfolding connections
  net_connections_kept o = calm_act L l_holds l_stays looks.is_open actions.Keep _ K refl (terminals_kept o L actions.AddNet (alone L l_holds l_stays looks.is_name actions.AddNet refl))

  output_connections_kept : (o : Bool) → Keeps Tells K (connections source limits o actions.AddOutput) K
  unfolding connections
  output_connections_kept o =
      calm_act K k_holds k_stays looks.is_open actions.Keep _ K refl
      (terminals_kept o K actions.AddOutput
      (step K L L k_holds looks.is_name actions.AddOutput none (λ x s m k h e. output_label source limits low high x s m h e) (keeps_none Tells L)))

  instance_kept : (o : Bool) → Keeps Tells K (instance source limits o) K
  unfolding instance
  instance_kept o =
      keeps_alt Tells K K _ _
      (step K L K k_holds looks.is_name actions.Label (connections source limits o actions.AddNet) (λ x s m k h e. label source limits low high x s m h e) (net_connections_kept o))
      (output_connections_kept o)

  further_instances_kept : (o : Bool) → Keeps Tells K (further_instances source limits o) K
  unfolding further_instances
  further_instances_kept o = keeps_many Tells K _ (calm_act K k_holds k_stays looks.is_comma actions.Keep _ K refl (instance_kept o))

  instances_end_kept : Keeps Tells K (instances_end source limits) K
  unfolding instances_end
  instances_end_kept = alone K k_holds k_stays looks.is_semicolon actions.Keep refl

  instances_kept : (o : Bool) → Keeps Tells K (instances source limits o) K
  unfolding instances
  instances_kept o = keeps_seq Tells K K K _ _ (keeps_seq Tells K K K _ _ (instance_kept o) (further_instances_kept o)) instances_end_kept

  delayed_kept : (n : ℕ) (o : Bool) → Keeps Tells K (delayed source limits n o) K
  unfolding delayed
  delayed_kept n o = keeps_alt Tells K K _ _ (keeps_seq Tells K K K _ _ (delay_kept K k_holds k_stays n) (instances_kept o)) (instances_kept o)

  delayed_held : (n : ℕ) (o : Bool) → Keeps Tells K (delayed source limits n o) H
  delayed_held n o = keeps_to Tells K K H (delayed source limits n o) k_holds (delayed_kept n o)

  elements_kept : (n : ℕ) → Keeps Tells H (elements source limits n) H
  unfolding elements
  elements_kept n =
      keeps_alt Tells H H _ _
      (step H K H h_holds looks.is_name actions.BeginPrimitive (delayed source limits n false) (λ x s m k h e. primitive_kind source limits low high x s m h e) (delayed_held n false))
      (keeps_alt Tells H H _ _
      (step H K H h_holds looks.is_gate actions.BeginGate (delayed source limits n false) (λ x s m k h e. gate_kind source limits low high x s m (gate_look (look_of source x) k) h e) (delayed_held n false))
      (step H K H h_holds looks.is_buffer actions.BeginGate (delayed source limits n true) (λ x s m k h e. gate_kind source limits low high x s m (buffer_look (look_of source x) k) h e) (delayed_held n true)))

  -- ---- the module

  item_kept : (n : ℕ) → Keeps Tells H (item source limits n) H
  unfolding item
  item_kept n = keeps_alt Tells H H _ _ (declaration_kept H h_holds h_stays) (keeps_alt Tells H H _ _ (elements_kept n) (specify_kept H h_holds h_stays))

  whole_end : (x : Left) (s m : ModuleText) → H s → perform source limits actions.EndModule x s ≡ Ok m → Read limits m
  whole_end x s m h e =
      let c : Calm limits s m = calm source limits low high actions.EndModule x s m refl h e in
      record { holds = c.holds; directed = ended source limits low high x s m e }

  module_end_kept : Keeps Tells H (module_end source limits) (Read limits)
  unfolding module_end
  module_end_kept = step H (Read limits) (Read limits) h_holds looks.is_end_module actions.EndModule none (λ x s m k h e. whole_end x s m h e) (keeps_none Tells (Read limits))

  items_kept : (n : ℕ) → Keeps Tells H (items source limits n) (Read limits)
  unfolding items
  items_kept n = keeps_seq Tells H H (Read limits) _ _ (keeps_many Tells H _ (item_kept n)) module_end_kept

  header_end_kept : (n : ℕ) → Keeps Tells H (header_end source limits n) (Read limits)
  unfolding header_end
  header_end_kept n = calm_act H h_holds h_stays looks.is_semicolon actions.Keep _ (Read limits) refl (items_kept n)

  ports_end_kept : (n : ℕ) → Keeps Tells H (ports_end source limits n) (Read limits)
  unfolding ports_end
  ports_end_kept n = calm_act H h_holds h_stays looks.is_close actions.Keep _ (Read limits) refl (header_end_kept n)

  listed_kept : (n : ℕ) → Keeps Tells H (listed source limits n) (Read limits)
  unfolding listed
  listed_kept n = keeps_seq Tells H H (Read limits) _ _ (keeps_seq Tells H H H _ _ (port_kept H h_holds h_stays) (further_ports_kept H h_holds h_stays)) (ports_end_kept n)

  ports_kept : (n : ℕ) → Keeps Tells H (ports source limits n) (Read limits)
  unfolding ports
  ports_kept n = keeps_alt Tells H (Read limits) _ _ (ports_end_kept n) (listed_kept n)

  pub body_kept : (n : ℕ) → Keeps Tells H (module_body source limits n) (Read limits)
  unfolding module_body
  body_kept n = keeps_alt Tells H (Read limits) _ _ (calm_act H h_holds h_stays looks.is_open actions.Keep _ (Read limits) refl (ports_kept n)) (header_end_kept n)

-- nothing is read
pub none_held : (limits : Limits) → Holds limits no_module
none_held limits = record { ports = refl; distinct = refl; supplies = refl; elements = refl; terminals = refl; direction = refl; declared = refl }

-- a module that is read whole
pub whole_kept : (limits : Limits) (name : List ℕ) (m : ModuleText) → is_name_within limits name ≡ true → Read limits m
    → is_module limits (record { name = name; ports = m.ports; supplies = m.supplies; elements = m.elements }) ≡ true
whole_kept limits name m w h =
    let all : list_all (is_port limits) m.ports ≡ true = whole_ports limits m.ports h.holds.ports h.directed in
    let apart : is_distinct (map port_name_of m.ports) ≡ true = h.holds.distinct in
    let rails = h.holds.supplies in
    let parts = h.holds.elements in
    rw (w, all, apart, rails, parts) refl
