-- What is kept of a module, behind each item that is read.
use Rattle.std.proofs.Common.{◌≡◌, ℕ, ◌≤◌, Bool, true, false, List, [], ◌∷◌, ◌++◌, length, Option, Some, None, Ok, Err, refl, sym, subst, arith}
use Rattle.std.specs.Prelude.{if◌then◌else◌, nat_le}
use Rattle.std.specs.List.{list_all}
use Rattle.std.proofs.lemmas.Bool.{leb-true, le-leb}
use Rattle.text_scan.specs.declared.limits.Limits.{Limits}
use Rattle.text_scan.specs.declared.limits.LimitKind.TheVariants as limit_kinds
use Rattle.text_scan.specs.declared.pins.Direction.{Direction}
use Rattle.file_rules.specs.Names.{is_name, is_too_long, is_name_within, is_distinct, is_shown}
use Rattle.file_rules.specs.Kept.{both_true, is_distinct-push, name_within, name_shown}
use Rattle.name_index.specs.Places.{is_known}
use Rattle.verilog_directives.specs.declared.left.Left.{Left}
use Rattle.verilog_looks.specs.declared.halt.Refusal.{Refusal}
use Rattle.verilog_looks.specs.declared.halt.Refusal.TheVariants as refusals
use Rattle.verilog_looks.specs.Looks.{look_of, text}
use Rattle.verilog_looks.specs.Names.{content, named}
use Rattle.verilog_source.specs.Source.{is_supply, is_terminal, is_element}
use Rattle.verilog_source.specs.declared.module.Port.{Port}
use Rattle.verilog_source.specs.declared.module.Element.{Element}
use Rattle.verilog_source.specs.declared.module.Terminal.{Terminal}
use Rattle.verilog_source.specs.declared.module.Terminal.TheVariants.{Net, Constant}
use Rattle.verilog_modules.specs.declared.module_text.ModuleText.{ModuleText}
use Rattle.verilog_modules.specs.declared.module_text.Declared.{Declared}
use Rattle.verilog_modules.specs.declared.module_text.Declared.TheVariants as declares
use Rattle.verilog_modules.specs.declared.module_phase.ModuleAction.{ModuleAction}
use Rattle.verilog_modules.specs.declared.module_phase.ModuleAction.TheVariants as actions
use Rattle.verilog_modules.specs.Ports.{names_of, directed, undirected}
use Rattle.verilog_modules.specs.ModuleActions.{ModuleOutcome, perform, add_name, add_port, declare, or_here, unless_undirected, direction_of, declared_of, constant_of}
use Rattle.verilog_modules.proofs.Kept.{all_more, is_portlike, has_port, names_more, Directed, directed_all, undirected_name, look_direction, is_declared, look_declared, look_constant, is_gatelike, gate_within}

-- what holds between any two items
pub record Holds (limits : Limits) (s : ModuleText) : Type 0 where
  pub ports : list_all (has_port limits) s.ports ≡ true
  pub distinct : is_distinct (names_of s.ports) ≡ true
  pub supplies : list_all (is_supply limits) s.supplies ≡ true
  pub elements : list_all (is_element limits) s.elements ≡ true
  pub terminals : list_all (is_terminal limits) s.terminals ≡ true
  pub direction : is_portlike s.direction ≡ true
  pub declared : is_declared s.declared ≡ true

-- and the instance that is read has the word and the label that it had
pub record Calm (limits : Limits) (s m : ModuleText) : Type 0 where
  pub holds : Holds limits m
  pub kind : m.kind ≡ s.kind
  pub label : m.label ≡ s.label

-- a port without a direction is told by a word that can be shown
abbrev pub Tells : Refusal → Type 0
Tells (refusals.NoDirection name) = is_shown name ≡ true
Tells (refusals.TooMany kind) = Unit {0}
Tells (refusals.BadName t) = Unit {0}
Tells (refusals.DoubleName t) = Unit {0}
Tells refusals.Here = Unit {0}

pub ok_is : (x m : ModuleText) → ◌≡◌ {A = ModuleOutcome} (Ok x) (Ok m) → x ≡ m
ok_is x m h = cc

err_is : (d e : Refusal) → ◌≡◌ {A = ModuleOutcome} (Err d) (Err e) → d ≡ e
err_is d e h = cc

tells : (d e : Refusal) → Tells d → ◌≡◌ {A = ModuleOutcome} (Err d) (Err e) → Tells e
tells d e t h = subst Tells (err_is d e h) t

never : (x : ModuleText) (e : Refusal) → ◌≡◌ {A = ModuleOutcome} (Ok x) (Err e) → Tells e
never x e h = absurd (cc)

abbrev pub is_calm : ModuleAction → Bool
is_calm actions.Keep = true
is_calm actions.AddPort = true
is_calm actions.Direct = true
is_calm actions.Declare = true
is_calm actions.BeginDeclaration = true
is_calm actions.CheckName = true
is_calm actions.AddNet = true
is_calm actions.AddConstant = true
is_calm actions.EndModule = true
is_calm _ = false

module _ (source : List ℕ) (limits : Limits) (low : 4 ≤ limits.name) (high : limits.name ≤ 128) where
  abbrev Within : List ℕ → Type 0
  Within name = is_name_within limits name ≡ true

  -- ---- names

  passes : (name : List ℕ) (b c : Bool) (o : ModuleOutcome) (m : ModuleText) → is_too_long limits name ≡ b → is_name name ≡ c
      → (if b then Err (refusals.TooMany limit_kinds.Name) else if c then o else Err refusals.Here) ≡ Ok m → Within name × (o ≡ Ok m)
  passes name true c o m long is h = absurd (cc)
  passes name false false o m long is h = absurd (cc)
  passes name false true o m long is h = (name_within limits name is long, h)

  pub name_passes : (name : List ℕ) (o : ModuleOutcome) (m : ModuleText) → named limits name o ≡ Ok m → Within name × (o ≡ Ok m)
  unfolding named
  name_passes name o m h = passes name (is_too_long limits name) (is_name name) o m refl refl h

  halts : (b c : Bool) (o : ModuleOutcome) (e : Refusal) → (o ≡ Err e → Tells e) → (if b then Err (refusals.TooMany limit_kinds.Name) else if c then o else Err refusals.Here) ≡ Err e → Tells e
  halts true c o e f h = tells _ e tt h
  halts false true o e f h = f h
  halts false false o e f h = tells _ e tt h

  name_halts : (name : List ℕ) (o : ModuleOutcome) (e : Refusal) → (o ≡ Err e → Tells e) → named limits name o ≡ Err e → Tells e
  unfolding named
  name_halts name o e f h = halts (is_too_long limits name) (is_name name) o e f h

  shown : (name : List ℕ) → Within name → is_shown name ≡ true
  shown name h =
      let both = both_true (is_name name) (nat_le (length name) limits.name) h in
      let few : length name ≤ limits.name = leb-true _ _ both.1 in
      name_shown name both.0 (le-leb _ _ (omega arith))

  -- ---- calm items

  stay : (s : ModuleText) → Holds limits s → Calm limits s s
  stay s h = record { holds = h; kind = refl; label = refl }

  stay_ok : (s m : ModuleText) → Holds limits s → ◌≡◌ {A = ModuleOutcome} (Ok s) (Ok m) → Calm limits s m
  stay_ok s m h e = subst (Calm limits s) (ok_is s m e) (stay s h)

  port_calm : (t : Left) (name : List ℕ) (s m : ModuleText) (b : Bool) → is_known name (names_of s.ports) ≡ b → Holds limits s → Within name
      → ◌≡◌ {A = ModuleOutcome} (if b then Err (refusals.DoubleName t.token) else Ok (record s { ports = s.ports ++ record { name = name; direction = s.direction } ∷ [] })) (Ok m) → Calm limits s m
  port_calm t name s m true known h w e = absurd (cc)
  port_calm t name s m false known h w e =
      let p : Port = record { name = name; direction = s.direction } in
      let new : ModuleText = record s { ports = s.ports ++ p ∷ [] } in
      let way = h.direction in
      let fits : has_port limits p ≡ true = rw (w, way) refl in
      let apart : is_distinct (names_of (s.ports ++ p ∷ [])) ≡ true = rw (names_more s.ports p) (is_distinct-push (names_of s.ports) name h.distinct known) in
      subst (Calm limits s) (ok_is new m e) (record {
        holds = record { ports = all_more (has_port limits) s.ports p h.ports fits; distinct = apart; supplies = h.supplies; elements = h.elements; terminals = h.terminals; direction = h.direction; declared = h.declared };
        kind = refl;
        label = refl;
      })

  directed_calm : (s m : ModuleText) (name : List ℕ) (d : Direction) (o : Option (List Port)) → directed s.ports name d ≡ o → is_portlike d ≡ true → Holds limits s → or_here s o ≡ Ok m → Calm limits s m
  directed_calm s m name d None is k h e = absurd (cc)
  directed_calm s m name d (Some ports) is k h e =
      let new : ModuleText = record s { ports = ports } in
      let to : Directed limits s.ports ports = directed_all limits s.ports ports name d k h.ports is in
      subst (Calm limits s) (ok_is new m e) (record {
        holds = record { ports = to.all; distinct = subst (λ z. is_distinct z ≡ true) (sym to.names) h.distinct; supplies = h.supplies; elements = h.elements; terminals = h.terminals; direction = h.direction; declared = h.declared };
        kind = refl;
        label = refl;
      })

  declared_calm : (d : Declared) (name : List ℕ) (s m : ModuleText) → is_declared d ≡ true → Holds limits s → Within name → declare d name s ≡ Ok m → Calm limits s m
  unfolding declare
  declared_calm (declares.Port d) name s m k h w e = directed_calm s m name d (directed s.ports name d) refl k h e
  declared_calm declares.Net name s m k h w e = stay_ok s m h e
  declared_calm (declares.Supply v) name s m k h w e =
      let new : ModuleText = record s { supplies = s.supplies ++ record { 0 = name; 1 = v } ∷ [] } in
      let fits : is_supply limits (record { 0 = name; 1 = v }) ≡ true = rw (w, k) refl in
      subst (Calm limits s) (ok_is new m e) (record {
        holds = record { ports = h.ports; distinct = h.distinct; supplies = all_more (is_supply limits) s.supplies (record { 0 = name; 1 = v }) h.supplies fits; elements = h.elements; terminals = h.terminals; direction = h.direction; declared = h.declared };
        kind = refl;
        label = refl;
      })

  terminal_calm : (c : Terminal) (s m : ModuleText) → is_terminal limits c ≡ true → Holds limits s → ◌≡◌ {A = ModuleOutcome} (Ok (record s { terminals = s.terminals ++ c ∷ [] })) (Ok m) → Calm limits s m
  terminal_calm c s m k h e =
      let new : ModuleText = record s { terminals = s.terminals ++ c ∷ [] } in
      subst (Calm limits s) (ok_is new m e) (record {
        holds = record { ports = h.ports; distinct = h.distinct; supplies = h.supplies; elements = h.elements; terminals = all_more (is_terminal limits) s.terminals c h.terminals k; direction = h.direction; declared = h.declared };
        kind = refl;
        label = refl;
      })

  end_calm : (s m : ModuleText) (o : Option (List ℕ)) → Holds limits s → unless_undirected s o ≡ Ok m → Calm limits s m
  end_calm s m None h e = stay_ok s m h e
  end_calm s m (Some name) h e = absurd (cc)

  name_calm : (a : ModuleAction) (t : Left) (name : List ℕ) (s m : ModuleText) → is_calm a ≡ true → Holds limits s → Within name → add_name a t name s ≡ Ok m → Calm limits s m
  unfolding add_name add_port
  name_calm actions.Keep t name s m q h w e = stay_ok s m h e
  name_calm actions.AddPort t name s m q h w e = port_calm t name s m (is_known name (names_of s.ports)) refl h w e
  name_calm actions.Direct t name s m q h w e = stay_ok s m h e
  name_calm actions.Declare t name s m q h w e = declared_calm s.declared name s m h.declared h w e
  name_calm actions.BeginDeclaration t name s m q h w e = stay_ok s m h e
  name_calm actions.CheckName t name s m q h w e = stay_ok s m h e
  name_calm actions.AddNet t name s m q h w e = terminal_calm (Net name) s m w h e
  name_calm actions.AddConstant t name s m q h w e = stay_ok s m h e
  name_calm actions.EndModule t name s m q h w e = stay_ok s m h e
  name_calm _ t name s m q h w e = absurd (cc)

  through : (a : ModuleAction) (t : Left) (s m : ModuleText) → is_calm a ≡ true → Holds limits s → named limits (content source t.token) (add_name a t (content source t.token) s) ≡ Ok m → Calm limits s m
  through a t s m q h e =
      let both = name_passes (content source t.token) _ m e in
      name_calm a t (content source t.token) s m q h both.0 both.1

  direct_calm : (t : Left) (s m : ModuleText) → Holds limits s → ◌≡◌ {A = ModuleOutcome} (Ok (record s { direction = direction_of (look_of source t) })) (Ok m) → Calm limits s m
  direct_calm t s m h e =
      let new : ModuleText = record s { direction = direction_of (look_of source t) } in
      subst (Calm limits s) (ok_is new m e) (record {
        holds = record { ports = h.ports; distinct = h.distinct; supplies = h.supplies; elements = h.elements; terminals = h.terminals; direction = look_direction (look_of source t); declared = h.declared };
        kind = refl;
        label = refl;
      })

  declaring_calm : (t : Left) (s m : ModuleText) → Holds limits s → ◌≡◌ {A = ModuleOutcome} (Ok (record s { declared = declared_of (look_of source t) })) (Ok m) → Calm limits s m
  declaring_calm t s m h e =
      let new : ModuleText = record s { declared = declared_of (look_of source t) } in
      subst (Calm limits s) (ok_is new m e) (record {
        holds = record { ports = h.ports; distinct = h.distinct; supplies = h.supplies; elements = h.elements; terminals = h.terminals; direction = h.direction; declared = look_declared (look_of source t) };
        kind = refl;
        label = refl;
      })

  pub calm : (a : ModuleAction) (t : Left) (s m : ModuleText) → is_calm a ≡ true → Holds limits s → perform source limits a t s ≡ Ok m → Calm limits s m
  unfolding perform
  calm actions.Keep t s m q h e = stay_ok s m h e
  calm actions.AddPort t s m q h e = through actions.AddPort t s m refl h e
  calm actions.Direct t s m q h e = direct_calm t s m h e
  calm actions.Declare t s m q h e = through actions.Declare t s m refl h e
  calm actions.BeginDeclaration t s m q h e = declaring_calm t s m h e
  calm actions.CheckName t s m q h e = through actions.CheckName t s m refl h e
  calm actions.AddNet t s m q h e = through actions.AddNet t s m refl h e
  calm actions.AddConstant t s m q h e = terminal_calm (Constant (constant_of (look_of source t))) s m (look_constant (look_of source t)) h e
  calm actions.EndModule t s m q h e = end_calm s m (undirected s.ports) h e
  calm _ t s m q h e = absurd (cc)

  -- ---- the others

  -- holds, and the word or the label of the instance is a name
  pub record Kinded (s : ModuleText) : Type 0 where
    pub holds : Holds limits s
    pub kind : Within s.kind

  pub record Labelled (s : ModuleText) : Type 0 where
    pub holds : Holds limits s
    pub kind : Within s.kind
    pub label : Within s.label

  with_kind : (is_gate : Bool) (kind : List ℕ) (s m : ModuleText) → Holds limits s → Within kind → ◌≡◌ {A = ModuleOutcome} (Ok (record s { kind = kind; is_gate = is_gate })) (Ok m) → Kinded m
  with_kind is_gate kind s m h w e =
      let new : ModuleText = record s { kind = kind; is_gate = is_gate } in
      subst Kinded (ok_is new m e) (record {
        holds = record { ports = h.ports; distinct = h.distinct; supplies = h.supplies; elements = h.elements; terminals = h.terminals; direction = h.direction; declared = h.declared };
        kind = w;
      })

  pub primitive_kind : (t : Left) (s m : ModuleText) → Holds limits s → perform source limits actions.BeginPrimitive t s ≡ Ok m → Kinded m
  unfolding perform add_name
  primitive_kind t s m h e =
      let both = name_passes (content source t.token) _ m e in
      with_kind false (content source t.token) s m h both.0 both.1

  pub gate_kind : (t : Left) (s m : ModuleText) → is_gatelike (look_of source t) ≡ true → Holds limits s → perform source limits actions.BeginGate t s ≡ Ok m → Kinded m
  unfolding perform
  gate_kind t s m g h e = with_kind true (text source t.token) s m h (gate_within limits low source t g) e

  pub label : (t : Left) (s m : ModuleText) → Kinded s → perform source limits actions.Label t s ≡ Ok m → Labelled m
  unfolding perform add_name
  label t s m k e =
      let h = k.holds in
      let both = name_passes (content source t.token) _ m e in
      let new : ModuleText = record s { label = content source t.token } in
      subst Labelled (ok_is new m both.1) (record {
        holds = record { ports = h.ports; distinct = h.distinct; supplies = h.supplies; elements = h.elements; terminals = h.terminals; direction = h.direction; declared = h.declared };
        kind = k.kind;
        label = both.0;
      })

  pub output_label : (t : Left) (s m : ModuleText) → Kinded s → perform source limits actions.AddOutput t s ≡ Ok m → Labelled m
  unfolding perform add_name
  output_label t s m k e =
      let h = k.holds in
      let name = content source t.token in
      let both = name_passes name _ m e in
      let new : ModuleText = record s { label = name; terminals = s.terminals ++ Net name ∷ [] } in
      subst Labelled (ok_is new m both.1) (record {
        holds = record { ports = h.ports; distinct = h.distinct; supplies = h.supplies; elements = h.elements; terminals = all_more (is_terminal limits) s.terminals (Net name) h.terminals both.0; direction = h.direction; declared = h.declared };
        kind = k.kind;
        label = both.0;
      })

  pub instance_end : (t : Left) (s m : ModuleText) → Labelled s → perform source limits actions.EndInstance t s ≡ Ok m → Kinded m
  unfolding perform
  instance_end t s m k e =
      let h = k.holds in
      let made : Element = record { kind = s.kind; is_gate = s.is_gate; label = s.label; terminals = s.terminals } in
      let new : ModuleText = record s { elements = s.elements ++ made ∷ []; label = []; terminals = [] } in
      let word = k.kind in
      let name = k.label in
      let nets = h.terminals in
      let fits : is_element limits made ≡ true = rw (word, name, nets) refl in
      subst Kinded (ok_is new m e) (record {
        holds = record { ports = h.ports; distinct = h.distinct; supplies = h.supplies; elements = all_more (is_element limits) s.elements made h.elements fits; terminals = refl; direction = h.direction; declared = h.declared };
        kind = k.kind;
      })

  -- at the end each port has a direction
  undirected_none : (s m : ModuleText) (o : Option (List ℕ)) → unless_undirected s o ≡ Ok m → o ≡ None
  undirected_none s m None e = refl
  undirected_none s m (Some name) e = absurd (cc)

  end_same : (s m : ModuleText) (o : Option (List ℕ)) → unless_undirected s o ≡ Ok m → s ≡ m
  end_same s m None e = ok_is s m e
  end_same s m (Some name) e = absurd (cc)

  pub module_end : (t : Left) (s m : ModuleText) → perform source limits actions.EndModule t s ≡ Ok m → undirected m.ports ≡ None
  unfolding perform
  module_end t s m e = subst (λ z. undirected z.ports ≡ None) (end_same s m (undirected s.ports) e) (undirected_none s m (undirected s.ports) e)

  -- ---- refusals

  end_tells : (s : ModuleText) (e : Refusal) (o : Option (List ℕ)) → undirected s.ports ≡ o → Holds limits s → unless_undirected s o ≡ Err e → Tells e
  end_tells s e None is h k = never s e k
  end_tells s e (Some name) is h k = tells (refusals.NoDirection name) e (shown name (undirected_name limits s.ports name h.ports is)) k

  if_known : (b : Bool) (d e : Refusal) (x : ModuleText) → Tells d → ◌≡◌ {A = ModuleOutcome} (if b then Err d else Ok x) (Err e) → Tells e
  if_known true d e x t h = tells d e t h
  if_known false d e x t h = never x e h

  here_tells : (s : ModuleText) (e : Refusal) (o : Option (List Port)) → or_here s o ≡ Err e → Tells e
  here_tells s e None h = tells refusals.Here e tt h
  here_tells s e (Some ports) h = never _ e h

  declare_tells : (d : Declared) (name : List ℕ) (s : ModuleText) (e : Refusal) → declare d name s ≡ Err e → Tells e
  unfolding declare
  declare_tells (declares.Port d) name s e h = here_tells s e (directed s.ports name d) h
  declare_tells declares.Net name s e h = never s e h
  declare_tells (declares.Supply v) name s e h = never _ e h

  add_tells : (a : ModuleAction) (t : Left) (name : List ℕ) (s : ModuleText) (e : Refusal) → add_name a t name s ≡ Err e → Tells e
  unfolding add_name add_port
  add_tells actions.AddPort t name s e h = if_known (is_known name (names_of s.ports)) _ e _ tt h
  add_tells actions.Declare t name s e h = declare_tells s.declared name s e h
  add_tells actions.BeginPrimitive t name s e h = never _ e h
  add_tells actions.Label t name s e h = never _ e h
  add_tells actions.AddOutput t name s e h = never _ e h
  add_tells actions.AddNet t name s e h = never _ e h
  add_tells _ t name s e h = never s e h

  named_tells : (a : ModuleAction) (t : Left) (s : ModuleText) (e : Refusal) → named limits (content source t.token) (add_name a t (content source t.token) s) ≡ Err e → Tells e
  named_tells a t s e h = name_halts (content source t.token) _ e (add_tells a t (content source t.token) s e) h

  pub refuses : (a : ModuleAction) (t : Left) (s : ModuleText) (e : Refusal) → Holds limits s → perform source limits a t s ≡ Err e → Tells e
  unfolding perform
  refuses actions.Keep t s e h k = never s e k
  refuses actions.Direct t s e h k = never _ e k
  refuses actions.BeginDeclaration t s e h k = never _ e k
  refuses actions.BeginGate t s e h k = never _ e k
  refuses actions.AddConstant t s e h k = never _ e k
  refuses actions.EndInstance t s e h k = never _ e k
  refuses actions.EndModule t s e h k = end_tells s e (undirected s.ports) refl h k
  refuses actions.AddPort t s e h k = named_tells actions.AddPort t s e k
  refuses actions.Declare t s e h k = named_tells actions.Declare t s e k
  refuses actions.BeginPrimitive t s e h k = named_tells actions.BeginPrimitive t s e k
  refuses actions.CheckName t s e h k = named_tells actions.CheckName t s e k
  refuses actions.Label t s e h k = named_tells actions.Label t s e k
  refuses actions.AddOutput t s e h k = named_tells actions.AddOutput t s e k
  refuses actions.AddNet t s e h k = named_tells actions.AddNet t s e k
