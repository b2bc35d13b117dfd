-- No primitive is refused by the name of a port: a name alone tells why where a port of a module has no direction.
use Rattle.std.proofs.Common.{◌≡◌, ℕ, Bool, true, false, List, [], ◌∷◌, ◌++◌, Option, Some, None, Ok, Err, subst}
use Rattle.std.specs.Prelude.{if◌then◌else◌, ◌==◌}
use Rattle.text_scan.specs.declared.limits.Limits.{Limits}
use Rattle.text_scan.specs.declared.limits.LimitKind.TheVariants as limit_kinds
use Rattle.file_rules.specs.Names.{is_name, is_too_long}
use Rattle.name_index.specs.Places.{is_known, place_of}
use Rattle.grammar.specs.Rule.{none, one, seq, alt, many}
use Rattle.verilog_directives.specs.declared.left.Left.{Left}
use Rattle.verilog_looks.specs.declared.halt.Refusal.{Refusal}
use Rattle.verilog_looks.specs.declared.halt.Refusal.TheVariants as refusals
use Rattle.verilog_looks.specs.declared.look.Look.{Look}
use Rattle.verilog_looks.specs.Looks as looks
use Rattle.verilog_looks.specs.Looks.{look_of, are_symbols}
use Rattle.verilog_looks.specs.Names.{content, named}
use Rattle.verilog_modules.proofs.Holding.{Keeps, keeps_none, keeps_one, keeps_seq, keeps_alt, keeps_many}
use Rattle.verilog_modules.proofs.KeptSteps.{Tells}
use Rattle.verilog_primitives.specs.declared.PrimitiveText.{PrimitiveText}
use Rattle.verilog_primitives.specs.declared.udp_text.UdpDeclared.{UdpDeclared}
use Rattle.verilog_primitives.specs.declared.udp_text.UdpDeclared.TheVariants as declares
use Rattle.verilog_primitives.specs.declared.udp_phase.UdpAction.{UdpAction}
use Rattle.verilog_primitives.specs.declared.udp_phase.UdpAction.TheVariants as actions
use Rattle.verilog_primitives.specs.UdpActions.{UdpOutcome, perform_udp, add_udp_name, declare_udp, declare_at, declare_first, declare_other, listed}
use Rattle.verilog_primitives.specs.UdpGrammar.{UdpRule, act, udp_port_name, output_port, udp_port, further_udp_ports, udp_name, further_udp_names, udp_names_end, udp_names, udp_declaration, symbols, row_end, row, udp_end, table_end, rows, table, stated, statement_end, statement, after_declarations, declarations, udp_header_end, udp_ports_end, udp_ports, udp_body}

-- ---- refusals

tells : (d e : Refusal) → Tells d → ◌≡◌ {A = UdpOutcome} (Err d) (Err e) → Tells e
tells d e t h = let same : d ≡ e = cc in subst Tells same t

never : (x : PrimitiveText) (e : Refusal) → ◌≡◌ {A = UdpOutcome} (Ok x) (Err e) → Tells e
never x e h = absurd (cc)

here : (e : Refusal) → ◌≡◌ {A = UdpOutcome} (Err refusals.Here) (Err e) → Tells e
here e h = tells refusals.Here e tt h

either : (b : Bool) (x y : UdpOutcome) (e : Refusal) → (x ≡ Err e → Tells e) → (y ≡ Err e → Tells e) → (if b then x else y) ≡ Err e → Tells e
either true x y e f g h = f h
either false x y e f g h = g h

first_tells : (d : UdpDeclared) (s : PrimitiveText) (e : Refusal) → declare_first d s ≡ Err e → Tells e
unfolding declare_first
first_tells declares.Plain s e h = never s e h
first_tells declares.Output s e h = either s.has_output (Err refusals.Here) (Ok (record s { has_output = true })) e (here e) (never (record s { has_output = true }) e) h
first_tells declares.OutputReg s e h =
    either s.has_output (Err refusals.Here) (if s.sequential then Err refusals.Here else Ok (record s { has_output = true; sequential = true })) e (here e)
    (either s.sequential (Err refusals.Here) (Ok (record s { has_output = true; sequential = true })) e (here e) (never (record s { has_output = true; sequential = true }) e)) h
first_tells declares.Reg s e h = either s.sequential (Err refusals.Here) (Ok (record s { sequential = true })) e (here e) (never (record s { sequential = true }) e) h
first_tells declares.Input s e h = here e h

other_tells : (d : UdpDeclared) (name : List ℕ) (s : PrimitiveText) (e : Refusal) → declare_other d name s ≡ Err e → Tells e
unfolding declare_other
other_tells declares.Plain name s e h = never s e h
other_tells declares.Input name s e h =
    either (is_known name s.inputs) (Err refusals.Here) (Ok (record s { inputs = s.inputs ++ name ∷ [] })) e (here e) (never (record s { inputs = s.inputs ++ name ∷ [] }) e) h
other_tells declares.Output name s e h = here e h
other_tells declares.OutputReg name s e h = here e h
other_tells declares.Reg name s e h = here e h

at_tells : (o : Option ℕ) (d : UdpDeclared) (name : List ℕ) (s : PrimitiveText) (e : Refusal) → declare_at o d name s ≡ Err e → Tells e
at_tells None d name s e h = here e h
at_tells (Some place) d name s e h = either (place == 0) (declare_first d s) (declare_other d name s) e (first_tells d s e) (other_tells d name s e) h

declare_tells : (d : UdpDeclared) (name : List ℕ) (s : PrimitiveText) (e : Refusal) → declare_udp d name s ≡ Err e → Tells e
unfolding declare_udp
declare_tells d name s e h = at_tells (place_of s.ports name) d name s e h

add_tells : (a : UdpAction) (name : List ℕ) (s : PrimitiveText) (e : Refusal) → add_udp_name a name s ≡ Err e → Tells e
unfolding add_udp_name
add_tells actions.AddPort name s e h = declare_tells s.declared name (listed name s) e h
add_tells actions.Declare name s e h = declare_tells s.declared name s e h
add_tells _ name s e h = never s e h

named_tells : (limits : Limits) (name : List ℕ) (o : UdpOutcome) (e : Refusal) → (o ≡ Err e → Tells e) → named limits name o ≡ Err e → Tells e
unfolding named
named_tells limits name o e f h =
    either (is_too_long limits name) (Err (refusals.TooMany limit_kinds.Name)) (if is_name name then o else Err refusals.Here) e (tells (refusals.TooMany limit_kinds.Name) e tt)
    (either (is_name name) o (Err refusals.Here) e f (here e)) h

module _ (source : List ℕ) (limits : Limits) where
  refuses : (a : UdpAction) (t : Left) (s : PrimitiveText) (e : Refusal) → perform_udp source limits a t s ≡ Err e → Tells e
  unfolding perform_udp
  refuses actions.Keep t s e h = never s e h
  refuses actions.BeginOutput t s e h = never _ e h
  refuses actions.BeginOutputReg t s e h = never _ e h
  refuses actions.BeginInput t s e h = never _ e h
  refuses actions.BeginDeclaration t s e h = never _ e h
  refuses actions.AddSymbols t s e h = never _ e h
  refuses actions.EndRow t s e h = never _ e h
  refuses actions.AddPort t s e h = named_tells limits (content source t.token) (add_udp_name actions.AddPort (content source t.token) s) e (add_tells actions.AddPort (content source t.token) s e) h
  refuses actions.Declare t s e h = named_tells limits (content source t.token) (add_udp_name actions.Declare (content source t.token) s) e (add_tells actions.Declare (content source t.token) s e) h

  -- ---- the grammar

  abbrev Any : PrimitiveText → Type 0
  Any s = Unit {0}

  abbrev Told : UdpRule → Type 0
  Told a = Keeps Tells Any a Any

  nothing : Told none
  nothing = keeps_none Tells Any

  one_told : (p : Left → Bool) (a : UdpAction) (next : Left → UdpRule) → ((x : Left) → p x ≡ true → Told (next x)) → Told (one p (λ t s. perform_udp source limits a t s) next)
  one_told p a next after = keeps_one Tells Any Any Any p (λ t s. perform_udp source limits a t s) next (λ x s m k h e. tt) (λ x s e k h f. refuses a x s e f) after

  act_told : (p : Look → Bool) (a : UdpAction) (follows : UdpRule) → Told follows → Told (act source limits p a follows)
  act_told p a follows after = one_told (λ t. p (look_of source t)) a (λ t. follows) (λ x k. after)

  alone : (p : Look → Bool) (a : UdpAction) → Told (act source limits p a none)
  alone p a = act_told p a none nothing

  both : (a b : UdpRule) → Told a → Told b → Told (seq a b)
  both a b f g = keeps_seq Tells Any Any Any a b f g

  one_of : (a b : UdpRule) → Told a → Told b → Told (alt a b)
  one_of a b f g = keeps_alt Tells Any Any a b f g

  turns : (a : UdpRule) → Told a → Told (many a)
  turns a f = keeps_many Tells Any a f

  port_name_told : Told (udp_port_name source limits)
  unfolding udp_port_name
  port_name_told = alone looks.is_name actions.AddPort

  output_port_told : Told (output_port source limits)
  unfolding output_port
  output_port_told = one_of _ _ (act_told looks.is_reg actions.BeginOutputReg _ port_name_told) port_name_told

  port_told : Told (udp_port source limits)
  unfolding udp_port
  port_told = one_of _ _ (act_told looks.is_output actions.BeginOutput _ output_port_told) (one_of _ _ (act_told looks.is_input actions.BeginInput _ port_name_told) port_name_told)

  further_ports_told : Told (further_udp_ports source limits)
  unfolding further_udp_ports
  further_ports_told = turns _ (act_told looks.is_comma actions.Keep _ port_told)

  name_told : Told (udp_name source limits)
  unfolding udp_name
  name_told = alone looks.is_name actions.Declare

  further_names_told : Told (further_udp_names source limits)
  unfolding further_udp_names
  further_names_told = turns _ (act_told looks.is_comma actions.Keep _ name_told)

  names_end_told : Told (udp_names_end source limits)
  unfolding udp_names_end
  names_end_told = alone looks.is_semicolon actions.Keep

  names_told : Told (udp_names source limits)
  unfolding udp_names
  names_told = both _ _ (both _ _ name_told further_names_told) names_end_told

  declaration_told : Told (udp_declaration source limits)
  unfolding udp_declaration
  declaration_told = act_told looks.is_udp_declaration actions.BeginDeclaration _ names_told

  symbols_told : Told (symbols source limits)
  unfolding symbols
  symbols_told = turns _ (one_told (are_symbols source) actions.AddSymbols _ (λ x k. nothing))

  row_end_told : Told (row_end source limits)
  unfolding row_end
  row_end_told = alone looks.is_semicolon actions.EndRow

  row_told : Told (row source limits)
  unfolding row
  row_told = both _ _ symbols_told row_end_told

  end_told : Told (udp_end source limits)
  unfolding udp_end
  end_told = alone looks.is_end_primitive actions.Keep

  table_end_told : Told (table_end source limits)
  unfolding table_end
  table_end_told = act_told looks.is_end_table actions.Keep _ end_told

  rows_told : Told (rows source limits)
  unfolding rows
  rows_told = both _ _ (turns _ row_told) table_end_told

  table_told : Told (table source limits)
  unfolding table
  table_told = act_told looks.is_table actions.Keep _ rows_told

  stated_told : Told (stated source limits)
  unfolding stated
  stated_told = turns _ (alone looks.is_stated actions.Keep)

  statement_end_told : Told (statement_end source limits)
  unfolding statement_end
  statement_end_told = act_told looks.is_semicolon actions.Keep _ table_told

  statement_told : Told (statement source limits)
  unfolding statement
  statement_told = both _ _ stated_told statement_end_told

  after_declarations_told : Told (after_declarations source limits)
  unfolding after_declarations
  after_declarations_told = one_of _ _ (act_told looks.is_initial actions.Keep _ statement_told) table_told

  declarations_told : Told (declarations source limits)
  unfolding declarations
  declarations_told = both _ _ (turns _ declaration_told) after_declarations_told

  header_end_told : Told (udp_header_end source limits)
  unfolding udp_header_end
  header_end_told = act_told looks.is_semicolon actions.Keep _ declarations_told

  ports_end_told : Told (udp_ports_end source limits)
  unfolding udp_ports_end
  ports_end_told = act_told looks.is_close actions.Keep _ header_end_told

  ports_told : Told (udp_ports source limits)
  unfolding udp_ports
  ports_told = both _ _ (both _ _ port_told further_ports_told) ports_end_told

  pub body_told : Told (udp_body source limits)
  unfolding udp_body
  body_told = act_told looks.is_open actions.Keep _ ports_told
