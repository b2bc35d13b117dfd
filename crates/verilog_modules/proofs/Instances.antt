-- Each instance that is read has nets at its outputs.
use Rattle.std.proofs.Common.{◌≡◌, ℕ, ◌-◌, Bool, true, false, List, [], ◌∷◌, ◌++◌, length, take, Ok, ◌⊎◌, inl, inr, refl, sym, ap, subst, ◌∙◌}
use Rattle.text_scan.specs.declared.limits.Limits.{Limits}
use Rattle.grammar.specs.Rule.{none, Takes}
use Rattle.verilog_directives.specs.declared.left.Left.{Left}
use Rattle.verilog_looks.specs.declared.halt.Refusal.{Refusal}
use Rattle.verilog_looks.specs.Looks as looks
use Rattle.verilog_looks.specs.Looks.{look_of, text}
use Rattle.verilog_looks.specs.Names.{content}
use Rattle.verilog_source.specs.declared.module.Element.{Element}
use Rattle.verilog_source.specs.declared.module.Terminal.{Terminal}
use Rattle.verilog_source.specs.declared.module.Terminal.TheVariants.{Net, Constant}
use Rattle.verilog_modules.specs.declared.module_text.ModuleText.{ModuleText}
use Rattle.verilog_modules.specs.declared.module_phase.ModuleAction.{ModuleAction}
use Rattle.verilog_modules.specs.declared.module_phase.ModuleAction.TheVariants as actions
use Rattle.verilog_modules.specs.Driving.{is_buffer_word, DriveNets}
use Rattle.verilog_modules.specs.ModuleActions.{ModuleOutcome, perform, add_name, constant_of, no_module}
use Rattle.verilog_modules.specs.ModuleGrammar.{last, terminal, further_terminals, terminals_end, terminals, connections, instance, further_instances, instances_end, instances, delayed, elements, item, items, header_end, ports_end, listed, ports, module_body}
use Rattle.verilog_modules.proofs.Keeping.{Leads, leads_none, leads_before, leads_one, leads_seq, leads_alt, leads_many, leads_to}
use Rattle.verilog_modules.proofs.Quiet.{Same, same_quiet, name_passed, quiet_act, delay_keeps, port_keeps, further_ports_keep, declaration_keeps, specify_keeps, module_end_keeps}
use Rattle.verilog_modules.proofs.Drives.{AllNets, NetFirst, all_append, all_take, but_last, first_more, drives_one, drive_more, gate_letters, comma_closes}

-- where only the first terminal is an output the word is no buffer's
abbrev FitsWord : Bool → ModuleText → Type 0
FitsWord o s = o ≡ false → is_buffer_word s.is_gate s.kind ≡ false

-- outside instances
abbrev pub Idle : ModuleText → List Left → Type 0
Idle s ts = DriveNets s.elements × (s.terminals ≡ [])

-- before the first terminal of an instance
abbrev Begun : Bool → ModuleText → List Left → Type 0
Begun o s ts = DriveNets s.elements × (s.terminals ≡ []) × FitsWord o s

-- where a terminal may follow
abbrev Open : Bool → ModuleText → List Left → Type 0
Open o s ts = DriveNets s.elements × NetFirst s.terminals × FitsWord o s × (o ≡ true → AllNets s.terminals)

abbrev ButLast : ModuleText → Type 0
ButLast s = AllNets (take (length s.terminals - 1) s.terminals)

-- behind a constant
abbrev Ended : Bool → ModuleText → List Left → Type 0
Ended o s ts = DriveNets s.elements × NetFirst s.terminals × FitsWord o s × (o ≡ true → ButLast s)

ok_is : (x m : ModuleText) → ◌≡◌ {A = ModuleOutcome} (Ok x) (Ok m) → x ≡ m
ok_is x m h = cc

fits_same : (o : Bool) (s m : ModuleText) → Same s m → FitsWord o s → FitsWord o m
fits_same o s m h w e = rw (h.kind, h.gate) (w e)

idle_stays : (s m : ModuleText) (ts us : List Left) → Same s m → Idle s ts → Idle m us
idle_stays s m ts us h k = (subst DriveNets (sym h.elements) k.0, h.terminals ∙ k.1)

begun_stays : (o : Bool) (s m : ModuleText) (ts us : List Left) → Same s m → Begun o s ts → Begun o m us
begun_stays o s m ts us h k = (subst DriveNets (sym h.elements) k.0, h.terminals ∙ k.1, fits_same o s m h k.2)

first_of : (n : List ℕ) (ts : List Terminal) → ts ≡ [] → NetFirst (ts ++ Net n ∷ [])
first_of n ts e = (n, [], ap (λ zs. zs ++ Net n ∷ []) e)

nets_of : (n : List ℕ) (ts : List Terminal) → ts ≡ [] → AllNets (ts ++ Net n ∷ [])
nets_of n ts e = subst (λ zs. AllNets (zs ++ Net n ∷ [])) (sym e) refl

module _ (source : List ℕ) (limits : Limits) where
  -- a parenthesis that closes comes next
  abbrev Closes : List Left → Type 0
  Closes ts = (x : Left) × (us : List Left) × (ts ≡ x ∷ us) × (looks.is_close (look_of source x) ≡ true)

  -- behind a terminal
  abbrev Stands : Bool → ModuleText → List Left → Type 0
  Stands o s ts = DriveNets s.elements × NetFirst s.terminals × FitsWord o s × (o ≡ true → AllNets s.terminals ⊎ (ButLast s × Closes ts))

  -- ---- terminals

  closes_first : (x : Left) (us : List Left) → Closes (x ∷ us) → looks.is_close (look_of source x) ≡ true
  closes_first x us h = let e : h.0 ≡ x = (let f = h.2 in cc) in subst (λ z. looks.is_close (look_of source z) ≡ true) e h.3

  open_nets : (x : Left) (us : List Left) (ts : List Terminal) (s : ModuleText) → looks.is_comma (look_of source x) ≡ true → AllNets ts ⊎ (ButLast s × Closes (x ∷ us)) → AllNets ts
  open_nets x us ts s k (inl h) = h
  open_nets x us ts s k (inr h) = absurd (comma_closes (look_of source x) k (closes_first x us h.1))

  open_step : (o : Bool) (x : Left) (us : List Left) (s m : ModuleText) → looks.is_comma (look_of source x) ≡ true → Stands o s (x ∷ us) → Same s m → Open o m us
  open_step o x us s m k h e = (
    subst DriveNets (sym e.elements) h.0,
    subst NetFirst (sym e.terminals) h.1,
    fits_same o s m e h.2,
    λ t. subst AllNets (sym e.terminals) (open_nets x us s.terminals s k (h.3 t)),
  )

  name_step : (o : Bool) (x : Left) (us : List Left) (s m : ModuleText) → Open o s (x ∷ us) → perform source limits actions.AddNet x s ≡ Ok m → Stands o m us
  unfolding perform add_name
  name_step o x us s m h e =
      let n = content source x.token in
      let new : ModuleText = record s { terminals = s.terminals ++ Net n ∷ [] } in
      let is : new ≡ m = ok_is new m (name_passed source limits actions.AddNet x s m e) in
      subst (λ z. Stands o z us) is (h.0, first_more s.terminals (Net n ∷ []) h.1, h.2, λ t. inl (all_append s.terminals (Net n ∷ []) (h.3 t) refl))

  constant_step : (o : Bool) (x : Left) (us : List Left) (s m : ModuleText) → Open o s (x ∷ us) → perform source limits actions.AddConstant x s ≡ Ok m → Ended o m us
  unfolding perform
  constant_step o x us s m h e =
      let c : Terminal = Constant (constant_of (look_of source x)) in
      let new : ModuleText = record s { terminals = s.terminals ++ c ∷ [] } in
      let is : new ≡ m = ok_is new m e in
      subst (λ z. Ended o z us) is (h.0, first_more s.terminals (c ∷ []) h.1, h.2, λ t. but_last s.terminals c (h.3 t))

  last_leads : (o : Bool) → Leads (Ended o) (last source limits o) (Stands o)
  last_leads true = leads_before Refusal (Ended true) (Stands true) (λ t. looks.is_close (look_of source t)) (λ s x us k h. (h.0, h.1, h.2, λ t. inr (h.3 t, (x, us, refl, k))))
  last_leads false = leads_to (Ended false) (Ended false) (Stands false) none (λ s ts h. (h.0, h.1, h.2, λ t. absurd (cc))) (leads_none Refusal (Ended false))

  terminal_leads : (o : Bool) → Leads (Open o) (terminal source limits o) (Stands o)
  unfolding terminal
  terminal_leads o =
      leads_alt (Open o) (Stands o) _ _
      (leads_one (Open o) (Stands o) (Stands o) (λ t. looks.is_name (look_of source t)) _ _ (λ x us s m k h e. name_step o x us s m h e) (λ x k. leads_none Refusal (Stands o)))
      (leads_one (Open o) (Ended o) (Stands o) (λ t. looks.is_constant (look_of source t)) _ _ (λ x us s m k h e. constant_step o x us s m h e) (λ x k. last_leads o))

  further_terminals_lead : (o : Bool) → Leads (Stands o) (further_terminals source limits o) (Stands o)
  unfolding further_terminals
  further_terminals_lead o =
      leads_many (Stands o) _
      (leads_one (Stands o) (Open o) (Stands o) (λ t. looks.is_comma (look_of source t)) _ _
      (λ x us s m k h e. open_step o x us s m k h (same_quiet source limits actions.Keep x s m refl e)) (λ x k. terminal_leads o))

  -- ---- instances

  most_nets : (s : ModuleText) (ts : List Left) → AllNets s.terminals ⊎ (ButLast s × Closes ts) → ButLast s
  most_nets s ts (inl h) = all_take (length s.terminals - 1) s.terminals h
  most_nets s ts (inr h) = h.0

  end_step : (o : Bool) (x : Left) (us : List Left) (s m : ModuleText) → Stands o s (x ∷ us) → perform source limits actions.EndInstance x s ≡ Ok m → Begun o m us
  unfolding perform
  end_step o x us s m h e =
      let made : Element = record { kind = s.kind; is_gate = s.is_gate; label = s.label; terminals = s.terminals } in
      let new : ModuleText = record s { elements = s.elements ++ made ∷ []; label = []; terminals = [] } in
      let is : new ≡ m = ok_is new m e in
      subst (λ z. Begun o z us) is (drive_more s.elements made h.0 (drives_one o made h.2 h.1 (λ t. most_nets s (x ∷ us) (h.3 t))), refl, h.2)

  terminals_end_leads : (o : Bool) → Leads (Stands o) (terminals_end source limits) (Begun o)
  unfolding terminals_end
  terminals_end_leads o =
      leads_one (Stands o) (Begun o) (Begun o) (λ t. looks.is_close (look_of source t)) _ _ (λ x us s m k h e. end_step o x us s m h e) (λ x k. leads_none Refusal (Begun o))

  net_step : (o : Bool) (x : Left) (us : List Left) (s m : ModuleText) → Begun o s (x ∷ us) → perform source limits actions.AddNet x s ≡ Ok m → Stands o m us
  unfolding perform add_name
  net_step o x us s m h e =
      let n = content source x.token in
      let new : ModuleText = record s { terminals = s.terminals ++ Net n ∷ [] } in
      let is : new ≡ m = ok_is new m (name_passed source limits actions.AddNet x s m e) in
      subst (λ z. Stands o z us) is (h.0, first_of n s.terminals h.1, h.2, λ t. inl (nets_of n s.terminals h.1))

  output_step : (o : Bool) (x : Left) (us : List Left) (s m : ModuleText) → Begun o s (x ∷ us) → perform source limits actions.AddOutput x s ≡ Ok m → Stands o m us
  unfolding perform add_name
  output_step o x us s m h e =
      let n = content source x.token in
      let new : ModuleText = record s { label = n; terminals = s.terminals ++ Net n ∷ [] } in
      let is : new ≡ m = ok_is new m (name_passed source limits actions.AddOutput x s m e) in
      subst (λ z. Stands o z us) is (h.0, first_of n s.terminals h.1, h.2, λ t. inl (nets_of n s.terminals h.1))

  terminals_lead : (o : Bool) (a : ModuleAction) → ((x : Left) (us : List Left) (s m : ModuleText) → Begun o s (x ∷ us) → perform source limits a x s ≡ Ok m → Stands o m us)
      → Leads (Begun o) (terminals source limits o a) (Begun o)
  unfolding terminals
  terminals_lead o a step =
      leads_seq (Begun o) (Stands o) (Begun o) _ _
      (leads_seq (Begun o) (Stands o) (Stands o) _ _
      (leads_one (Begun o) (Stands o) (Stands o) (λ t. looks.is_name (look_of source t)) _ _ (λ x us s m k h e. step x us s m h e) (λ x k. leads_none Refusal (Stands o)))
      (further_terminals_lead o))
      (terminals_end_leads o)

  connections_lead : (o : Bool) (a : ModuleAction) → ((x : Left) (us : List Left) (s m : ModuleText) → Begun o s (x ∷ us) → perform source limits a x s ≡ Ok m → Stands o m us)
      → Leads (Begun o) (connections source limits o a) (Begun o)
  unfolding connections
  connections_lead o a step = quiet_act source limits (Begun o) (begun_stays o) looks.is_open actions.Keep _ (Begun o) refl (terminals_lead o a step)

  instance_leads : (o : Bool) → Leads (Begun o) (instance source limits o) (Begun o)
  unfolding instance
  instance_leads o =
      leads_alt (Begun o) (Begun o) _ _
      (quiet_act source limits (Begun o) (begun_stays o) looks.is_name actions.Label _ (Begun o) refl (connections_lead o actions.AddNet (net_step o)))
      (connections_lead o actions.AddOutput (output_step o))

  further_instances_lead : (o : Bool) → Leads (Begun o) (further_instances source limits o) (Begun o)
  unfolding further_instances
  further_instances_lead o = leads_many (Begun o) _ (quiet_act source limits (Begun o) (begun_stays o) looks.is_comma actions.Keep _ (Begun o) refl (instance_leads o))

  instances_end_leads : (o : Bool) → Leads (Begun o) (instances_end source limits) (Begun o)
  unfolding instances_end
  instances_end_leads o = quiet_act source limits (Begun o) (begun_stays o) looks.is_semicolon actions.Keep _ (Begun o) refl (leads_none Refusal (Begun o))

  instances_lead : (o : Bool) → Leads (Begun o) (instances source limits o) (Begun o)
  unfolding instances
  instances_lead o = leads_seq (Begun o) (Begun o) (Begun o) _ _ (leads_seq (Begun o) (Begun o) (Begun o) _ _ (instance_leads o) (further_instances_lead o)) (instances_end_leads o)

  delayed_leads : (n : ℕ) (o : Bool) → Leads (Begun o) (delayed source limits n o) (Begun o)
  unfolding delayed
  delayed_leads n o =
      leads_alt (Begun o) (Begun o) _ _
      (leads_seq (Begun o) (Begun o) (Begun o) _ _ (delay_keeps source limits (Begun o) (begun_stays o) n) (instances_lead o))
      (instances_lead o)

  -- ---- the words of instances

  primitive_step : (x : Left) (us : List Left) (s m : ModuleText) → Idle s (x ∷ us) → perform source limits actions.BeginPrimitive x s ≡ Ok m → Begun false m us
  unfolding perform add_name
  primitive_step x us s m h e =
      let new : ModuleText = record s { kind = content source x.token; is_gate = false } in
      let is : new ≡ m = ok_is new m (name_passed source limits actions.BeginPrimitive x s m e) in
      subst (λ z. Begun false z us) is (h.0, h.1, λ f. refl)

  gate_step : (o : Bool) (x : Left) (us : List Left) (s m : ModuleText) → (o ≡ false → is_buffer_word true (text source x.token) ≡ false) → Idle s (x ∷ us) → perform source limits actions.BeginGate x s ≡ Ok m → Begun o m us
  unfolding perform
  gate_step o x us s m w h e =
      let new : ModuleText = record s { kind = text source x.token; is_gate = true } in
      let is : new ≡ m = ok_is new m e in
      subst (λ z. Begun o z us) is (h.0, h.1, w)

  idle_again : (o : Bool) (s : ModuleText) (ts : List Left) → Begun o s ts → Idle s ts
  idle_again o s ts h = (h.0, h.1)

  delayed_idle : (n : ℕ) (o : Bool) → Leads (Begun o) (delayed source limits n o) Idle
  delayed_idle n o = leads_to (Begun o) (Begun o) Idle _ (idle_again o) (delayed_leads n o)

  elements_lead : (n : ℕ) → Leads Idle (elements source limits n) Idle
  unfolding elements
  elements_lead n =
      leads_alt Idle Idle _ _
      (leads_one Idle (Begun false) Idle (λ t. looks.is_name (look_of source t)) _ _ (λ x us s m k h e. primitive_step x us s m h e) (λ x k. delayed_idle n false))
      (leads_alt Idle Idle _ _
      (leads_one Idle (Begun false) Idle (λ t. looks.is_gate (look_of source t)) _ _ (λ x us s m k h e. gate_step false x us s m (λ f. gate_letters source x k) h e) (λ x k. delayed_idle n false))
      (leads_one Idle (Begun true) Idle (λ t. looks.is_buffer (look_of source t)) _ _ (λ x us s m k h e. gate_step true x us s m (λ f. absurd (cc)) h e) (λ x k. delayed_idle n true)))

  -- ---- the module

  item_leads : (n : ℕ) → Leads Idle (item source limits n) Idle
  unfolding item
  item_leads n = leads_alt Idle Idle _ _ (declaration_keeps source limits Idle idle_stays) (leads_alt Idle Idle _ _ (elements_lead n) (specify_keeps source limits Idle idle_stays))

  items_lead : (n : ℕ) → Leads Idle (items source limits n) Idle
  unfolding items
  items_lead n = leads_seq Idle Idle Idle _ _ (leads_many Idle _ (item_leads n)) (module_end_keeps source limits Idle idle_stays)

  header_end_leads : (n : ℕ) → Leads Idle (header_end source limits n) Idle
  unfolding header_end
  header_end_leads n = quiet_act source limits Idle idle_stays looks.is_semicolon actions.Keep _ Idle refl (items_lead n)

  ports_end_leads : (n : ℕ) → Leads Idle (ports_end source limits n) Idle
  unfolding ports_end
  ports_end_leads n = quiet_act source limits Idle idle_stays looks.is_close actions.Keep _ Idle refl (header_end_leads n)

  listed_leads : (n : ℕ) → Leads Idle (listed source limits n) Idle
  unfolding listed
  listed_leads n = leads_seq Idle Idle Idle _ _ (leads_seq Idle Idle Idle _ _ (port_keeps source limits Idle idle_stays) (further_ports_keep source limits Idle idle_stays)) (ports_end_leads n)

  ports_lead : (n : ℕ) → Leads Idle (ports source limits n) Idle
  unfolding ports
  ports_lead n = leads_alt Idle Idle _ _ (ports_end_leads n) (listed_leads n)

  pub body_leads : (n : ℕ) → Leads Idle (module_body source limits n) Idle
  unfolding module_body
  body_leads n = leads_alt Idle Idle _ _ (quiet_act source limits Idle idle_stays looks.is_open actions.Keep _ Idle refl (ports_lead n)) (header_end_leads n)

  -- what is read of a whole module
  pub modules_drive : (n : ℕ) (ts : List Left) (t : ModuleText) (rest : List Left) → Takes (module_body source limits n) no_module ts t rest → DriveNets t.elements
  modules_drive n ts t rest h = let idle : Idle t rest = body_leads n no_module ts t rest (tt, refl) h in idle.0
