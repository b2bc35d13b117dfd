-- What items leave alone that add nothing to an instance.
use Rattle.std.proofs.Common.{◌≡◌, ℕ, zero, suc, Bool, true, false, List, [], ◌∷◌, ◌++◌, Option, Some, None, Ok, Err, refl, subst}
use Rattle.std.specs.Prelude.{if◌then◌else◌}
use Rattle.text_scan.specs.declared.limits.Limits.{Limits}
use Rattle.file_rules.specs.Names.{is_name, is_too_long}
use Rattle.name_index.specs.Places.{is_known}
use Rattle.grammar.specs.Rule.{none, one}
use Rattle.verilog_directives.specs.declared.left.Left.{Left}
use Rattle.verilog_looks.specs.declared.halt.Refusal.{Refusal}
use Rattle.verilog_looks.specs.declared.halt.Refusal.TheVariants as refusals
use Rattle.verilog_looks.specs.declared.look.Look.{Look}
use Rattle.verilog_looks.specs.Looks as looks
use Rattle.verilog_looks.specs.Looks.{look_of}
use Rattle.verilog_looks.specs.Names.{content, named}
use Rattle.verilog_source.specs.declared.module.Port.{Port}
use Rattle.verilog_modules.specs.declared.module_text.ModuleText.{ModuleText}
use Rattle.verilog_modules.specs.declared.module_text.Declared.{Declared}
use Rattle.verilog_modules.specs.declared.module_text.Declared.TheVariants as declares
use Rattle.verilog_modules.specs.declared.module_phase.ModuleAction.{ModuleAction}
use Rattle.verilog_modules.specs.declared.module_phase.ModuleAction.TheVariants as actions
use Rattle.verilog_modules.specs.Ports.{names_of, directed, undirected}
use Rattle.verilog_modules.specs.ModuleActions.{ModuleOutcome, perform, add_name, add_port, declare, or_here, unless_undirected, direction_of, declared_of}
use Rattle.verilog_modules.specs.ModuleGrammar.{ModuleRule, act, is_beside, is_off, port_name, net_port, port, further_ports, declared_name, further_names, names_end, names, declaration, closing, parentheses, delay_value, delay, beside_line, macro_line, specified, specify_end, specify, module_end}
use Rattle.verilog_modules.proofs.Keeping.{Leads, leads_none, leads_before, leads_one, leads_seq, leads_alt, leads_many}

-- the instances, and the one that is read, are as they were
pub record Same (s m : ModuleText) : Type 0 where
  pub elements : m.elements ≡ s.elements
  pub terminals : m.terminals ≡ s.terminals
  pub kind : m.kind ≡ s.kind
  pub gate : m.is_gate ≡ s.is_gate

abbrev pub is_quiet : ModuleAction → Bool
is_quiet actions.Keep = true
is_quiet actions.AddPort = true
is_quiet actions.Direct = true
is_quiet actions.Declare = true
is_quiet actions.BeginDeclaration = true
is_quiet actions.CheckName = true
is_quiet actions.Label = true
is_quiet actions.EndModule = true
is_quiet _ = false

same : (s : ModuleText) → Same s s
same s = record { elements = refl; terminals = refl; kind = refl; gate = refl }

same_ok : (s x m : ModuleText) → Same s x → ◌≡◌ {A = ModuleOutcome} (Ok x) (Ok m) → Same s m
same_ok s x m h e = let f : x ≡ m = cc in subst (Same s) f h

-- a name that passes
pub name_passes : (b c : Bool) (e : Refusal) (o : ModuleOutcome) (m : ModuleText) → (if b then Err e else (if c then o else Err refusals.Here)) ≡ Ok m → o ≡ Ok m
name_passes true c e o m h = absurd (cc)
name_passes false true e o m h = h
name_passes false false e o m h = absurd (cc)

unless : (b : Bool) (e : Refusal) (x m : ModuleText) → ◌≡◌ {A = ModuleOutcome} (if b then Err e else Ok x) (Ok m) → ◌≡◌ {A = ModuleOutcome} (Ok x) (Ok m)
unless true e x m h = absurd (cc)
unless false e x m h = h

port_same : (s m : ModuleText) (o : Option (List Port)) → or_here s o ≡ Ok m → Same s m
port_same s m None h = absurd (cc)
port_same s m (Some ports) h = same_ok s (record s { ports = ports }) m (record { elements = refl; terminals = refl; kind = refl; gate = refl }) h

end_same : (s m : ModuleText) (o : Option (List ℕ)) → unless_undirected s o ≡ Ok m → Same s m
end_same s m None h = same_ok s s m (same s) h
end_same s m (Some n) h = absurd (cc)

declare_same : (d : Declared) (name : List ℕ) (s m : ModuleText) → declare d name s ≡ Ok m → Same s m
unfolding declare
declare_same (declares.Port d) name s m h = port_same s m (directed s.ports name d) h
declare_same declares.Net name s m h = same_ok s s m (same s) h
declare_same (declares.Supply v) name s m h = same_ok s (record s { supplies = s.supplies ++ record { 0 = name; 1 = v } ∷ [] }) m (record { elements = refl; terminals = refl; kind = refl; gate = refl }) h

add_same : (t : Left) (name : List ℕ) (s m : ModuleText) → add_port t name s ≡ Ok m → Same s m
unfolding add_port
add_same t name s m h =
    let x : ModuleText = record s { ports = s.ports ++ record { name = name; direction = s.direction } ∷ [] } in
    same_ok s x m (record { elements = refl; terminals = refl; kind = refl; gate = refl }) (unless (is_known name (names_of s.ports)) (refusals.DoubleName t.token) x m h)

named_same : (a : ModuleAction) (t : Left) (name : List ℕ) (s m : ModuleText) → is_quiet a ≡ true → add_name a t name s ≡ Ok m → Same s m
unfolding add_name
named_same actions.Keep t name s m q h = same_ok s s m (same s) h
named_same actions.AddPort t name s m q h = add_same t name s m h
named_same actions.Direct t name s m q h = same_ok s s m (same s) h
named_same actions.Declare t name s m q h = declare_same s.declared name s m h
named_same actions.BeginDeclaration t name s m q h = same_ok s s m (same s) h
named_same actions.CheckName t name s m q h = same_ok s s m (same s) h
named_same actions.Label t name s m q h = same_ok s (record s { label = name }) m (record { elements = refl; terminals = refl; kind = refl; gate = refl }) h
named_same actions.EndModule t name s m q h = same_ok s s m (same s) h
named_same _ t name s m q h = absurd (cc)

module _ (source : List ℕ) (limits : Limits) where
  abbrev named_by : ModuleAction → Left → ModuleText → ModuleOutcome
  named_by a t s = named limits (content source t.token) (add_name a t (content source t.token) s)

  pub name_passed : (a : ModuleAction) (t : Left) (s m : ModuleText) → named_by a t s ≡ Ok m → add_name a t (content source t.token) s ≡ Ok m
  unfolding named
  name_passed a t s m h = name_passes (is_too_long limits (content source t.token)) (is_name (content source t.token)) _ _ m h

  pub same_quiet : (a : ModuleAction) (t : Left) (s m : ModuleText) → is_quiet a ≡ true → perform source limits a t s ≡ Ok m → Same s m
  unfolding perform
  same_quiet actions.Keep t s m q h = same_ok s s m (same s) h
  same_quiet actions.AddPort t s m q h = named_same actions.AddPort t (content source t.token) s m refl (name_passed actions.AddPort t s m h)
  same_quiet actions.Direct t s m q h = same_ok s (record s { direction = direction_of (look_of source t) }) m (record { elements = refl; terminals = refl; kind = refl; gate = refl }) h
  same_quiet actions.Declare t s m q h = named_same actions.Declare t (content source t.token) s m refl (name_passed actions.Declare t s m h)
  same_quiet actions.BeginDeclaration t s m q h = same_ok s (record s { declared = declared_of (look_of source t) }) m (record { elements = refl; terminals = refl; kind = refl; gate = refl }) h
  same_quiet actions.CheckName t s m q h = named_same actions.CheckName t (content source t.token) s m refl (name_passed actions.CheckName t s m h)
  same_quiet actions.Label t s m q h = named_same actions.Label t (content source t.token) s m refl (name_passed actions.Label t s m h)
  same_quiet actions.EndModule t s m q h = end_same s m (undirected s.ports) h
  same_quiet _ t s m q h = absurd (cc)

  -- what holds of the instances holds behind rules that add nothing to them
  module _ (P : ModuleText → List Left → Type 0) (stays : (s m : ModuleText) (ts us : List Left) → Same s m → P s ts → P m us) where
    nothing : Leads {E = Refusal} P none P
    nothing = leads_none Refusal P

    pub quiet_one : (p : Left → Bool) (a : ModuleAction) (next : Left → ModuleRule) (R : ModuleText → List Left → Type 0) → is_quiet a ≡ true
        → ((x : Left) → p x ≡ true → Leads P (next x) R) → Leads P (one p (λ t s. perform source limits a t s) next) R
    quiet_one p a next R q after = leads_one P P R p _ next (λ x us s m k h e. stays s m (x ∷ us) us (same_quiet a x s m q e) h) after

    pub quiet_act : (p : Look → Bool) (a : ModuleAction) (follows : ModuleRule) (R : ModuleText → List Left → Type 0) → is_quiet a ≡ true
        → Leads P follows R → Leads P (act source limits p a follows) R
    quiet_act p a follows R q after = quiet_one (λ t. p (look_of source t)) a (λ t. follows) R q (λ x k. after)

    last : (p : Look → Bool) (a : ModuleAction) → is_quiet a ≡ true → Leads P (act source limits p a none) P
    last p a q = quiet_act p a none P q nothing

    -- ---- delays

    closing_keeps : Leads P (closing source limits) P
    unfolding closing
    closing_keeps = last looks.is_close actions.Keep refl

    parentheses_keep : (n : ℕ) → Leads P (parentheses source limits n) P
    unfolding parentheses
    parentheses_keep zero = last looks.is_open actions.Keep refl
    parentheses_keep (suc n) =
        quiet_act looks.is_open actions.Keep _ P refl
        (leads_seq P P P _ _ (leads_many P _ (leads_alt P P _ _ (last looks.is_between actions.Keep refl) (parentheses_keep n))) closing_keeps)

    delay_value_keeps : (n : ℕ) → Leads P (delay_value source limits n) P
    unfolding delay_value
    delay_value_keeps n = leads_alt P P _ _ (last looks.is_number actions.Keep refl) (leads_alt P P _ _ (last looks.is_name actions.CheckName refl) (parentheses_keep n))

    pub delay_keeps : (n : ℕ) → Leads P (delay source limits n) P
    unfolding delay
    delay_keeps n = quiet_act looks.is_hash actions.Keep _ P refl (delay_value_keeps n)

    -- ---- the header

    port_name_keeps : Leads P (port_name source limits) P
    unfolding port_name
    port_name_keeps = last looks.is_name actions.AddPort refl

    net_port_keeps : Leads P (net_port source limits) P
    unfolding net_port
    net_port_keeps = leads_alt P P _ _ (quiet_act looks.is_net actions.Keep _ P refl port_name_keeps) port_name_keeps

    pub port_keeps : Leads P (port source limits) P
    unfolding port
    port_keeps = leads_alt P P _ _ (quiet_act looks.is_direction actions.Direct _ P refl net_port_keeps) port_name_keeps

    pub further_ports_keep : Leads P (further_ports source limits) P
    unfolding further_ports
    further_ports_keep = leads_many P _ (quiet_act looks.is_comma actions.Keep _ P refl port_keeps)

    -- ---- declarations

    declared_name_keeps : Leads P (declared_name source limits) P
    unfolding declared_name
    declared_name_keeps = last looks.is_name actions.Declare refl

    further_names_keep : Leads P (further_names source limits) P
    unfolding further_names
    further_names_keep = leads_many P _ (quiet_act looks.is_comma actions.Keep _ P refl declared_name_keeps)

    names_end_keeps : Leads P (names_end source limits) P
    unfolding names_end
    names_end_keeps = last looks.is_semicolon actions.Keep refl

    names_keep : Leads P (names source limits) P
    unfolding names
    names_keep = leads_seq P P P _ _ (leads_seq P P P _ _ declared_name_keeps further_names_keep) names_end_keeps

    pub declaration_keeps : Leads P (declaration source limits) P
    unfolding declaration
    declaration_keeps = quiet_act looks.is_declaration actions.BeginDeclaration _ P refl names_keep

    -- ---- specify blocks

    beside_line_keeps : (line : ℕ) → Leads P (beside_line source limits line) P
    unfolding beside_line
    beside_line_keeps line =
        leads_seq P P P _ _ (leads_many P _ (quiet_one (is_beside source line) actions.Keep _ P refl (λ x k. nothing)))
        (leads_before Refusal P P (is_off source line) (λ s x us k h. h))

    macro_line_keeps : Leads P (macro_line source limits) P
    unfolding macro_line
    macro_line_keeps = quiet_one (λ t. looks.is_macro (look_of source t)) actions.Keep _ P refl (λ x k. beside_line_keeps x.token.span.line)

    specified_keeps : Leads P (specified source limits) P
    unfolding specified
    specified_keeps = leads_many P _ (leads_alt P P _ _ (last looks.is_specified actions.Keep refl) macro_line_keeps)

    specify_end_keeps : Leads P (specify_end source limits) P
    unfolding specify_end
    specify_end_keeps = last looks.is_end_specify actions.Keep refl

    pub specify_keeps : Leads P (specify source limits) P
    unfolding specify
    specify_keeps = quiet_act looks.is_specify actions.Keep _ P refl (leads_seq P P P _ _ specified_keeps specify_end_keeps)

    pub module_end_keeps : Leads P (module_end source limits) P
    unfolding module_end
    module_end_keeps = last looks.is_end_module actions.EndModule refl
