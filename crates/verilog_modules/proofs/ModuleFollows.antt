-- Each item of a module leads to what the grammar says.
use Rattle.std.proofs.Common.{◌≡◌, ℕ, zero, suc, ◌+◌, ◌-◌, ◌≤◌, ◌<◌, leb, Bool, true, false, ◌||◌, ◌==◌, List, ◌∷◌, Result, Ok, Err, refl, ap, ◌∙◌, arith}
use Rattle.std.proofs.lemmas.Bool.{leb-true}
use Rattle.text_scan.specs.declared.limits.Limits.{Limits}
use Rattle.grammar.specs.Rule.{none, one, before, seq, alt, many}
use Rattle.grammar.specs.Reading.{syntax, refusal, begins, acting, ◌>>=◌, read}
use Rattle.verilog_directives.specs.declared.left.Left.{Left}
use Rattle.verilog_looks.specs.declared.halt.Refusal.{Refusal}
use Rattle.verilog_looks.specs.declared.look.Look.{Look}
use Rattle.verilog_looks.specs.declared.look.Look.TheVariants as looks
use Rattle.verilog_modules.specs.declared.module_text.ModuleText.{ModuleText}
use Rattle.verilog_modules.specs.declared.module_phase.ModulePhase.{ModulePhase}
use Rattle.verilog_modules.specs.declared.module_phase.ModulePhase.TheVariants as phases
use Rattle.verilog_modules.specs.declared.module_phase.ModuleAction.{ModuleAction}
use Rattle.verilog_modules.specs.declared.module_phase.ModuleAction.TheVariants as actions
use Rattle.verilog_modules.specs.declared.module_phase.ModuleMove.{ModuleMove}
use Rattle.verilog_modules.specs.declared.module_phase.ModuleMove.TheVariants as moves
use Rattle.verilog_looks.specs.Looks.{look_of, is_name, is_number, is_comma, is_open, is_close, is_between, is_specified}
use Rattle.verilog_modules.specs.ModuleActions.{perform}
use Rattle.verilog_modules.specs.ModuleGrammar.{ModuleRule, act, is_beside, is_off, port_name, net_port, port, further_ports, declared_name, further_names, names_end, names, declaration, closing, parentheses, between, delay_value, delay, terminal, further_terminals, terminals_end, terminals, connections, instance, further_instances, instances_end, instances, delayed, elements, beside_line, macro_line, specified, specify_end, specify, item, module_end, items, header_end, ports_end, listed, ports, module_body}
use Rattle.verilog_modules.specs.ModuleMoves.{at_header, at_ports, at_port, at_port_net, at_port_name, at_port_end, at_header_end, at_items, at_name, at_name_end, at_kind, at_hash, at_delay, at_instance, at_labelled, naming, at_output, at_terminal, at_terminal_end, at_last, at_instance_end, at_specify, beside, at_specify_line, closed, module_move}
use Rattle.verilog_modules.specs.ModuleBounds.{IsOpen}
use Rattle.verilog_modules.specs.ModuleToCome.{around, rest_of_delay, to_come, Reading}
use Rattle.verilog_looks.proofs.Binds.{bind2, bind3, bind4, bind6}
use Rattle.verilog_looks.proofs.Repeats.{turns, ends}
use Rattle.verilog_modules.proofs.ModuleSimple.{further_port, further_name, further_terminal, further_instance, beside_one, specified_one, item_simple, between_simple, parentheses_are}

module _ (source : List ℕ) (limits : Limits) (n : ℕ) where
  abbrev on : ModuleRule → ModuleText × List Left → Reading
  on c x = read c x.0 x.1

  -- what reading gives where an item does this
  abbrev pub outcome : ModuleMove → Left → ModuleText → List Left → Reading
  outcome moves.Stop t s ts = Err (syntax (t ∷ ts))
  outcome (moves.Go a p) t s ts = acting (perform source limits a t s) (λ m. read (to_come source limits n p) m ts) (λ e. Err (refusal e (t ∷ ts)))

  abbrev Follows : ModulePhase → ModuleMove → Look → Type 0
  Follows p move l = (s : ModuleText) (t : Left) (ts : List Left) → look_of source t ≡ l → read (to_come source limits n p) s (t ∷ ts) ≡ outcome move t s ts

  kept : (t : Left) (s : ModuleText) → perform source limits actions.Keep t s ≡ Ok s
  unfolding perform
  kept t s = refl

  abbrev of : ModuleAction → Left → ModuleText → Result ModuleText Refusal
  of a t s = perform source limits a t s

  -- ---- the header

  header_ok : (l : Look) → Follows phases.Header (at_header l) l
  unfolding module_body header_end
  header_ok looks.Open s t ts h = rw h refl
  header_ok looks.Semicolon s t ts h = rw h refl
  header_ok _ s t ts h = rw h refl

  port_ok : (l : Look) → Follows phases.Port (at_port l) l
  unfolding listed port port_name
  port_ok looks.Input s t ts h = rw h (bind2 (of actions.Direct t s) _ (t ∷ ts) _ _)
  port_ok looks.Output s t ts h = rw h (bind2 (of actions.Direct t s) _ (t ∷ ts) _ _)
  port_ok looks.Inout s t ts h = rw h (bind2 (of actions.Direct t s) _ (t ∷ ts) _ _)
  port_ok looks.Name s t ts h = rw h (bind2 (of actions.AddPort t s) _ (t ∷ ts) _ _)
  port_ok _ s t ts h = rw h refl

  ports_ok : (l : Look) → Follows phases.Ports (at_ports l) l
  unfolding ports ports_end listed port port_name
  ports_ok looks.Close s t ts h = rw h refl
  ports_ok looks.Input s t ts h = rw h (bind2 (of actions.Direct t s) _ (t ∷ ts) _ _)
  ports_ok looks.Output s t ts h = rw h (bind2 (of actions.Direct t s) _ (t ∷ ts) _ _)
  ports_ok looks.Inout s t ts h = rw h (bind2 (of actions.Direct t s) _ (t ∷ ts) _ _)
  ports_ok looks.Name s t ts h = rw h (bind2 (of actions.AddPort t s) _ (t ∷ ts) _ _)
  ports_ok _ s t ts h = rw h refl

  port_net_ok : (l : Look) → Follows phases.PortNet (at_port_net l) l
  unfolding net_port port_name
  port_net_ok looks.Wire s t ts h = rw (h, kept t s) refl
  port_net_ok looks.Reg s t ts h = rw (h, kept t s) refl
  port_net_ok looks.Name s t ts h = rw h (bind2 (of actions.AddPort t s) _ (t ∷ ts) _ _)
  port_net_ok _ s t ts h = rw h refl

  port_name_ok : (l : Look) → Follows phases.PortName (at_port_name l) l
  unfolding port_name
  port_name_ok looks.Name s t ts h = rw h (bind2 (of actions.AddPort t s) _ (t ∷ ts) _ _)
  port_name_ok _ s t ts h = rw h refl

  abbrev comma : ModuleRule → ModuleRule
  comma a = act source limits is_comma actions.Keep a

  port_end_ok : (l : Look) → Follows phases.PortEnd (at_port_end l) l
  unfolding further_ports ports_end listed
  port_end_ok looks.Comma s t ts h =
      ap (λ r. r >>= on (ports_end source limits n)) (turns (comma (port source limits)) (λ u. false) (further_port source limits _) refl s t ts (rw h refl)) ∙ rw (h, kept t s) refl
  port_end_ok l s t ts h = ap (λ r. r >>= on (ports_end source limits n)) (ends (comma (port source limits)) s t ts (rw h refl)) ∙ rw h refl

  header_end_ok : (l : Look) → Follows phases.HeaderEnd (at_header_end l) l
  unfolding header_end
  header_end_ok looks.Semicolon s t ts h = rw h refl
  header_end_ok _ s t ts h = rw h refl

  -- ---- items

  abbrev item_ends : Reading → Reading
  item_ends r = (r >>= on (many (item source limits n))) >>= on (module_end source limits)

  abbrev last_item : Reading → Reading
  last_item r = r >>= on (module_end source limits)

  turn_item : (s : ModuleText) (t : Left) (ts : List Left) → begins (item source limits n) t ≡ true → read (items source limits n) s (t ∷ ts) ≡ item_ends (read (item source limits n) s (t ∷ ts))
  unfolding items item declaration elements specify
  turn_item s t ts h = ap last_item (turns (item source limits n) (λ u. false) (item_simple source limits n _) refl s t ts h)

  end_items : (s : ModuleText) (t : Left) (ts : List Left) → begins (item source limits n) t ≡ false → read (items source limits n) s (t ∷ ts) ≡ read (module_end source limits) s (t ∷ ts)
  unfolding items
  end_items s t ts h = ap last_item (ends (item source limits n) s t ts h)

  items_ok : (l : Look) → Follows phases.Items (at_items l) l
  unfolding item declaration elements specify module_end
  items_ok looks.Input s t ts h = turn_item s t ts (rw h refl) ∙ rw h (bind2 (of actions.BeginDeclaration t s) _ (t ∷ ts) _ _)
  items_ok looks.Output s t ts h = turn_item s t ts (rw h refl) ∙ rw h (bind2 (of actions.BeginDeclaration t s) _ (t ∷ ts) _ _)
  items_ok looks.Inout s t ts h = turn_item s t ts (rw h refl) ∙ rw h (bind2 (of actions.BeginDeclaration t s) _ (t ∷ ts) _ _)
  items_ok looks.Wire s t ts h = turn_item s t ts (rw h refl) ∙ rw h (bind2 (of actions.BeginDeclaration t s) _ (t ∷ ts) _ _)
  items_ok looks.Reg s t ts h = turn_item s t ts (rw h refl) ∙ rw h (bind2 (of actions.BeginDeclaration t s) _ (t ∷ ts) _ _)
  items_ok looks.Supply0 s t ts h = turn_item s t ts (rw h refl) ∙ rw h (bind2 (of actions.BeginDeclaration t s) _ (t ∷ ts) _ _)
  items_ok looks.Supply1 s t ts h = turn_item s t ts (rw h refl) ∙ rw h (bind2 (of actions.BeginDeclaration t s) _ (t ∷ ts) _ _)
  items_ok looks.Name s t ts h = turn_item s t ts (rw h refl) ∙ rw h (bind2 (of actions.BeginPrimitive t s) _ (t ∷ ts) _ _)
  items_ok looks.Gate s t ts h = turn_item s t ts (rw h refl) ∙ rw h (bind2 (of actions.BeginGate t s) _ (t ∷ ts) _ _)
  items_ok looks.Buffer s t ts h = turn_item s t ts (rw h refl) ∙ rw h (bind2 (of actions.BeginGate t s) _ (t ∷ ts) _ _)
  items_ok looks.Specify s t ts h = turn_item s t ts (rw h refl) ∙ rw (h, kept t s) refl
  items_ok l s t ts h = end_items s t ts (rw h refl) ∙ rw h refl

  name_ok : (l : Look) → Follows phases.Name (at_name l) l
  unfolding names declared_name
  name_ok looks.Name s t ts h = rw h (bind4 (of actions.Declare t s) _ (t ∷ ts) _ _ _ _)
  name_ok _ s t ts h = rw h refl

  abbrev names_ended : Reading → Reading
  names_ended r = item_ends (r >>= on (names_end source limits))

  name_end_ok : (l : Look) → Follows phases.NameEnd (at_name_end l) l
  unfolding further_names names_end names items
  name_end_ok looks.Comma s t ts h =
      ap names_ended (turns (comma (declared_name source limits)) (λ u. false) (further_name source limits _) refl s t ts (rw h refl)) ∙ rw (h, kept t s) refl
  name_end_ok looks.Semicolon s t ts h = ap names_ended (ends (comma (declared_name source limits)) s t ts (rw h refl)) ∙ rw (h, kept t s) refl
  name_end_ok l s t ts h = ap names_ended (ends (comma (declared_name source limits)) s t ts (rw h refl)) ∙ rw h refl

  -- ---- instances

  instance_ok : (o : Bool) (l : Look) → Follows (phases.Instance o) (at_instance o l) l
  unfolding instances instance connections
  instance_ok o looks.Name s t ts h = rw h (bind4 (of actions.Label t s) _ (t ∷ ts) _ _ _ _)
  instance_ok o looks.Open s t ts h = rw (h, kept t s) refl
  instance_ok o _ s t ts h = rw h refl

  kind_ok : (o : Bool) (l : Look) → Follows (phases.Kind o) (at_kind o l) l
  unfolding delayed delay instances instance connections
  kind_ok o looks.Hash s t ts h = rw (h, kept t s) refl
  kind_ok o looks.Name s t ts h = rw h (bind4 (of actions.Label t s) _ (t ∷ ts) _ _ _ _)
  kind_ok o looks.Open s t ts h = rw (h, kept t s) refl
  kind_ok o _ s t ts h = rw h refl

  labelled_ok : (o : Bool) (l : Look) → Follows (phases.Labelled o) (at_labelled o l) l
  unfolding connections
  labelled_ok o looks.Open s t ts h = rw (h, kept t s) refl
  labelled_ok o _ s t ts h = rw h refl

  output_ok : (o labelled : Bool) (l : Look) → Follows (phases.Output o labelled) (at_output o labelled l) l
  unfolding terminals
  output_ok o labelled looks.Name s t ts h = rw h (bind6 (of (naming labelled) t s) _ (t ∷ ts) _ _ _ _ _ _)
  output_ok o labelled _ s t ts h = rw h refl

  terminal_ok : (o : Bool) (l : Look) → Follows (phases.Terminal o) (at_terminal o l) l
  unfolding terminal
  terminal_ok o looks.Name s t ts h = rw h (bind6 (of actions.AddNet t s) _ (t ∷ ts) _ _ _ _ _ _)
  terminal_ok true looks.Zero s t ts h = rw h (bind6 (of actions.AddConstant t s) _ (t ∷ ts) _ _ _ _ _ _)
  terminal_ok true looks.One s t ts h = rw h (bind6 (of actions.AddConstant t s) _ (t ∷ ts) _ _ _ _ _ _)
  terminal_ok false looks.Zero s t ts h = rw h (bind6 (of actions.AddConstant t s) _ (t ∷ ts) _ _ _ _ _ _)
  terminal_ok false looks.One s t ts h = rw h (bind6 (of actions.AddConstant t s) _ (t ∷ ts) _ _ _ _ _ _)
  terminal_ok o _ s t ts h = rw h refl

  abbrev instance_ends : Bool → Reading → Reading
  instance_ends o r = item_ends ((r >>= on (further_instances source limits o)) >>= on (instances_end source limits))

  abbrev terminals_ended : Bool → Reading → Reading
  terminals_ended o r = instance_ends o (r >>= on (terminals_end source limits))

  terminal_end_ok : (o : Bool) (l : Look) → Follows (phases.TerminalEnd o) (at_terminal_end o l) l
  unfolding further_terminals terminals_end
  terminal_end_ok o looks.Comma s t ts h =
      ap (terminals_ended o) (turns (comma (terminal source limits o)) (λ u. false) (further_terminal source limits o _) refl s t ts (rw h refl)) ∙ rw (h, kept t s) refl
  terminal_end_ok o looks.Close s t ts h =
      ap (terminals_ended o) (ends (comma (terminal source limits o)) s t ts (rw h refl)) ∙ rw h (bind4 (of actions.EndInstance t s) _ (t ∷ ts) _ _ _ _)
  terminal_end_ok o l s t ts h = ap (terminals_ended o) (ends (comma (terminal source limits o)) s t ts (rw h refl)) ∙ rw h refl

  last_ok : (o : Bool) (l : Look) → Follows (phases.Last o) (at_last o l) l
  unfolding further_terminals terminals_end
  last_ok o looks.Close s t ts h =
      let before_it : read (before (λ u. is_close (look_of source u))) s (t ∷ ts) ≡ Ok (s, t ∷ ts) = rw h refl in
      ap (λ r. terminals_ended o (r >>= on (further_terminals source limits o))) before_it
      ∙ ap (terminals_ended o) (ends (comma (terminal source limits o)) s t ts (rw h refl)) ∙ rw h (bind4 (of actions.EndInstance t s) _ (t ∷ ts) _ _ _ _)
  last_ok o _ s t ts h = rw h refl

  abbrev instances_ended : Reading → Reading
  instances_ended r = item_ends (r >>= on (instances_end source limits))

  instance_end_ok : (o : Bool) (l : Look) → Follows (phases.InstanceEnd o) (at_instance_end o l) l
  unfolding further_instances instances_end instances items
  instance_end_ok o looks.Comma s t ts h =
      ap instances_ended (turns (comma (instance source limits o)) (λ u. false) (further_instance source limits o _) refl s t ts (rw h refl)) ∙ rw (h, kept t s) refl
  instance_end_ok o looks.Semicolon s t ts h = ap instances_ended (ends (comma (instance source limits o)) s t ts (rw h refl)) ∙ rw (h, kept t s) refl
  instance_end_ok o l s t ts h = ap instances_ended (ends (comma (instance source limits o)) s t ts (rw h refl)) ∙ rw h refl

  -- ---- specify blocks

  abbrev specify_ended : Reading → Reading
  specify_ended r = item_ends (r >>= on (specify_end source limits))

  abbrev specified_item : ModuleRule
  specified_item = alt (act source limits is_specified actions.Keep none) (macro_line source limits)

  specified_turn : (s : ModuleText) (t : Left) (ts : List Left) → begins specified_item t ≡ true
      → read (to_come source limits n phases.Specify) s (t ∷ ts) ≡ specify_ended (read specified_item s (t ∷ ts) >>= on (specified source limits))
  unfolding specified macro_line
  specified_turn s t ts b = ap specify_ended (turns specified_item (λ u. false) (specified_one source limits _) refl s t ts b)

  specified_end : (s : ModuleText) (t : Left) (ts : List Left) → begins specified_item t ≡ false
      → read (to_come source limits n phases.Specify) s (t ∷ ts) ≡ specify_ended (Ok (s, t ∷ ts))
  unfolding specified
  specified_end s t ts b = ap specify_ended (ends specified_item s t ts b)

  specify_ok : (l : Look) (s : ModuleText) (t : Left) (ts : List Left) → look_of source t ≡ l
      → read (to_come source limits n phases.Specify) s (t ∷ ts) ≡ outcome (at_specify t.token.span.line l) t s ts
  unfolding macro_line specify_end items
  specify_ok looks.EndSpecify s t ts h = specified_end s t ts (rw h refl) ∙ rw (h, kept t s) refl
  specify_ok looks.Barred s t ts h = specified_end s t ts (rw h refl) ∙ rw h refl
  specify_ok looks.End s t ts h = specified_end s t ts (rw h refl) ∙ rw h refl
  specify_ok l s t ts h = specified_turn s t ts (rw h refl) ∙ rw (h, kept t s) refl

  abbrev line_item : ℕ → ModuleRule
  line_item line = one (is_beside source line) (λ u r. perform source limits actions.Keep u r) (λ u. none)

  abbrev line_ends : ℕ → Reading → Reading
  line_ends line r = specify_ended ((r >>= on (before (is_off source line))) >>= on (specified source limits))

  beside_ok : (line : ℕ) (l : Look) (s : ModuleText) (t : Left) (ts : List Left) → (t.token.span.line == line) ≡ true → look_of source t ≡ l
      → read (to_come source limits n (phases.SpecifyLine line)) s (t ∷ ts) ≡ outcome (beside line l) t s ts
  unfolding beside_line
  beside_ok line looks.Barred s t ts e h = ap (line_ends line) (ends (line_item line) s t ts (rw (e, h) refl)) ∙ rw (e, h) refl
  beside_ok line looks.End s t ts e h =
      let off : read (before (is_off source line)) s (t ∷ ts) ≡ Ok (s, t ∷ ts) = rw (e, h) refl in
      ap (line_ends line) (ends (line_item line) s t ts (rw (e, h) refl)) ∙ ap (λ r. specify_ended (r >>= on (specified source limits))) off ∙ specify_ok looks.End s t ts h
  beside_ok line l s t ts e h = ap (line_ends line) (turns (line_item line) (λ u. false) (beside_one source limits line _) refl s t ts (rw (e, h) refl)) ∙ rw (e, h, kept t s) refl

  off_ok : (line : ℕ) (s : ModuleText) (t : Left) (ts : List Left) → (t.token.span.line == line) ≡ false
      → read (to_come source limits n (phases.SpecifyLine line)) s (t ∷ ts) ≡ read (to_come source limits n phases.Specify) s (t ∷ ts)
  unfolding beside_line
  off_ok line s t ts e = ap (line_ends line) (ends (line_item line) s t ts (rw e refl)) ∙ rw e refl

  specify_line_ok : (line : ℕ) (l : Look) (s : ModuleText) (t : Left) (ts : List Left) → look_of source t ≡ l
      → read (to_come source limits n (phases.SpecifyLine line)) s (t ∷ ts) ≡ outcome (at_specify_line (t.token.span.line == line) line t.token.span.line l) t s ts
  specify_line_ok line l s t ts h = go (t.token.span.line == line) refl
    where
      go : (b : Bool) → (t.token.span.line == line) ≡ b → read (to_come source limits n (phases.SpecifyLine line)) s (t ∷ ts) ≡ outcome (at_specify_line b line t.token.span.line l) t s ts
      go true e = beside_ok line l s t ts e h
      go false e = off_ok line s t ts e ∙ specify_ok l s t ts h

  -- ---- delays

  abbrev Same : ModuleRule → ModuleRule → ModuleText → List Left → List Left → Type 0
  Same a b s ts us = read a s ts ≡ read b s us

  -- what is read alike is read alike in parentheses
  around_same : (depth room : ℕ) (a b : ModuleRule) (s : ModuleText) (ts us : List Left) → Same a b s ts us → Same (around source limits depth room a) (around source limits depth room b) s ts us
  around_same zero room a b s ts us h = h
  around_same (suc depth) room a b s ts us h =
      around_same depth (suc room) (seq (seq a (many (between source limits (suc room)))) (closing source limits)) (seq (seq b (many (between source limits (suc room)))) (closing source limits)) s ts us
      (ap (λ r. (r >>= on (many (between source limits (suc room)))) >>= on (closing source limits)) h)

  around_stops : (depth room : ℕ) (a : ModuleRule) (s : ModuleText) (ts : List Left) → read a s ts ≡ Err (syntax ts) → read (around source limits depth room a) s ts ≡ Err (syntax ts)
  around_stops zero room a s ts h = h
  around_stops (suc depth) room a s ts h =
      around_stops depth (suc room) (seq (seq a (many (between source limits (suc room)))) (closing source limits)) s ts (ap (λ r. (r >>= on (many (between source limits (suc room)))) >>= on (closing source limits)) h)

  abbrev inside : ℕ → ModuleRule
  inside room = seq (many (between source limits room)) (closing source limits)

  between_turn : (room : ℕ) (s : ModuleText) (t : Left) (ts : List Left) → begins (between source limits room) t ≡ true
      → read (inside room) s (t ∷ ts) ≡ ((read (between source limits room) s (t ∷ ts) >>= on (many (between source limits room))) >>= on (closing source limits))
  unfolding between
  between_turn room s t ts b = ap (λ r. r >>= on (closing source limits)) (turns (between source limits room) (λ u. false) (between_simple source limits (parentheses source limits room) (parentheses_are source limits room) _) ((parentheses_are source limits room).some) s t ts b)

  between_end : (room : ℕ) (s : ModuleText) (t : Left) (ts : List Left) → begins (between source limits room) t ≡ false → read (inside room) s (t ∷ ts) ≡ read (closing source limits) s (t ∷ ts)
  between_end room s t ts b = ap (λ r. r >>= on (closing source limits)) (ends (between source limits room) s t ts b)

  begins_between : (room : ℕ) (t : Left) (l : Look) (b : Bool) → look_of source t ≡ l → b ≡ b → begins (between source limits room) t ≡ (is_between l || is_open l)
  unfolding between
  begins_between room t l b h g = let first = (parentheses_are source limits room).first t in rw (first, h) refl

  -- an item that stays in the innermost parentheses
  stays : (room : ℕ) (s : ModuleText) (t : Left) (ts : List Left) (l : Look) → look_of source t ≡ l → is_between l ≡ true → read (inside room) s (t ∷ ts) ≡ read (inside room) s ts
  unfolding between
  stays room s t ts l h e =
      let looks_so : is_between (look_of source t) ≡ true = rw h e in
      between_turn room s t ts (begins_between room t l true h refl ∙ rw e refl) ∙ rw (looks_so, kept t s) refl

  opens : (room : ℕ) (s : ModuleText) (t : Left) (ts : List Left) → look_of source t ≡ looks.Open
      → read (inside (suc room)) s (t ∷ ts) ≡ read (seq (seq (inside room) (many (between source limits (suc room)))) (closing source limits)) s ts
  unfolding between parentheses
  opens room s t ts h = between_turn (suc room) s t ts (begins_between (suc room) t looks.Open true h refl) ∙ rw (h, kept t s) refl

  closes : (room : ℕ) (s : ModuleText) (t : Left) (ts : List Left) → look_of source t ≡ looks.Close → read (inside room) s (t ∷ ts) ≡ Ok (s, ts)
  unfolding closing
  closes room s t ts h = between_end room s t ts (begins_between room t looks.Close true h refl) ∙ rw (h, kept t s) refl

  stopped : (room : ℕ) (s : ModuleText) (t : Left) (ts : List Left) (l : Look) → look_of source t ≡ l → (is_between l || is_open l) ≡ false → is_close l ≡ false → read (inside room) s (t ∷ ts) ≡ Err (syntax (t ∷ ts))
  unfolding closing
  stopped room s t ts l h e f =
      let looks_so : is_close (look_of source t) ≡ false = rw h f in
      between_end room s t ts (begins_between room t l true h refl ∙ e) ∙ rw looks_so refl

  -- what ends the delay
  abbrev delay_ended : Bool → Reading → Reading
  delay_ended o r = item_ends (r >>= on (instances source limits o))

  in_delay_stays : (o : Bool) (depth : ℕ) (l : Look) → is_between l ≡ true → Follows (phases.Delay o depth) (moves.Go actions.Keep (phases.Delay o depth)) l
  unfolding rest_of_delay
  in_delay_stays o depth l e s t ts h =
      ap (delay_ended o) (around_same (depth - 1) (n - depth) (inside (n - depth)) (inside (n - depth)) s (t ∷ ts) ts (stays (n - depth) s t ts l h e)) ∙ rw (kept t s) refl

  in_delay_stops : (o : Bool) (depth : ℕ) (l : Look) → (is_between l || is_open l) ≡ false → is_close l ≡ false → Follows (phases.Delay o depth) moves.Stop l
  unfolding rest_of_delay
  in_delay_stops o depth l e f s t ts h = ap (delay_ended o) (around_stops (depth - 1) (n - depth) (inside (n - depth)) s (t ∷ ts) (stopped (n - depth) s t ts l h e f))

  in_delay_opens : (o : Bool) (depth room : ℕ) → 1 ≤ depth → n - depth ≡ suc room → Follows (phases.Delay o depth) (moves.Go actions.Keep (phases.Delay o (depth + 1))) looks.Open
  unfolding rest_of_delay
  in_delay_opens o zero room d r s t ts h = absurd (omega arith)
  in_delay_opens o (suc depth) room d r s t ts h =
      let less : n - (suc depth + 1) ≡ room = omega arith in
      let e : suc depth - 1 ≡ depth = omega arith in
      let f : (suc depth + 1) - 1 ≡ suc depth = omega arith in
      rw (e, r, kept t s, less, f) (ap (delay_ended o) (around_same depth (suc room) (inside (suc room)) (seq (seq (inside room) (many (between source limits (suc room)))) (closing source limits)) s (t ∷ ts) ts (opens room s t ts h)))

  more_than_one : (k : ℕ) → leb (suc (suc k)) 1 ≡ false
  more_than_one k = go (leb (suc (suc k)) 1) refl
    where
      go : (b : Bool) → leb (suc (suc k)) 1 ≡ b → b ≡ false
      go true e = absurd (let less = leb-true (suc (suc k)) 1 e in omega arith)
      go false e = refl

  in_delay_closes : (o : Bool) (depth : ℕ) → 1 ≤ depth → depth ≤ n → Follows (phases.Delay o depth) (moves.Go actions.Keep (closed o depth)) looks.Close
  unfolding rest_of_delay closed
  in_delay_closes o zero d r s t ts h = absurd (omega arith)
  in_delay_closes o (suc zero) d r s t ts h = ap (delay_ended o) (closes (n - 1) s t ts h) ∙ rw (kept t s) refl
  in_delay_closes o (suc (suc depth)) d r s t ts h =
      let e : suc (suc depth) - 1 ≡ suc depth = omega arith in
      let f : suc depth - 1 ≡ depth = omega arith in
      let room : n - suc depth ≡ suc (n - suc (suc depth)) = omega arith in
      let g : leb (suc (suc depth)) 1 ≡ false = more_than_one depth in
      rw (e, kept t s, g, f, room) (ap (delay_ended o) (around_same depth (suc (n - suc (suc depth))) (seq (seq (inside (n - suc (suc depth))) (many (between source limits (suc (n - suc (suc depth)))))) (closing source limits)) (inside (suc (n - suc (suc depth)))) s (t ∷ ts) ts
      (ap (λ q. (q >>= on (many (between source limits (suc (n - suc (suc depth)))))) >>= on (closing source limits)) (closes (n - suc (suc depth)) s t ts h))))

  delay_ok : (o : Bool) (depth : ℕ) (l : Look) → 1 ≤ depth → depth < n → Follows (phases.Delay o depth) (at_delay o depth l) l
  delay_ok o depth looks.Open d r s t ts h = in_delay_opens o depth (n - depth - 1) d (omega arith) s t ts h
  delay_ok o depth looks.Close d r s t ts h = in_delay_closes o depth d (omega arith) s t ts h
  delay_ok o depth looks.Barred d r s t ts h = in_delay_stops o depth looks.Barred refl refl s t ts h
  delay_ok o depth looks.End d r s t ts h = in_delay_stops o depth looks.End refl refl s t ts h
  delay_ok o depth l d r s t ts h = in_delay_stays o depth l refl s t ts h

  parentheses_open : (o : Bool) (k : ℕ) → n ≡ k → 1 ≤ k → (s : ModuleText) (t : Left) (ts : List Left) → look_of source t ≡ looks.Open
      → read (to_come source limits n (phases.Hash o)) s (t ∷ ts) ≡ outcome (moves.Go actions.Keep (phases.Delay o 1)) t s ts
  unfolding delay_value rest_of_delay parentheses between
  parentheses_open o zero e d s t ts h = absurd (omega arith)
  parentheses_open o (suc k) e d s t ts h =
      let f : suc k - 1 ≡ k = omega arith in
      rw (e, h, kept t s, f) refl

  parentheses_stop : (k : ℕ) (s : ModuleText) (t : Left) (ts : List Left) → is_open (look_of source t) ≡ false → read (parentheses source limits k) s (t ∷ ts) ≡ Err (syntax (t ∷ ts))
  unfolding parentheses
  parentheses_stop zero s t ts h = rw h refl
  parentheses_stop (suc k) s t ts h = rw h refl

  no_value : (o : Bool) (s : ModuleText) (t : Left) (ts : List Left) → is_number (look_of source t) ≡ false → is_name (look_of source t) ≡ false → is_open (look_of source t) ≡ false
      → read (to_come source limits n (phases.Hash o)) s (t ∷ ts) ≡ Err (syntax (t ∷ ts))
  unfolding delay_value
  no_value o s t ts a b c = let p = parentheses_stop n s t ts c in rw (a, b, p) refl

  hash_ok : (o : Bool) (l : Look) → 1 ≤ n → Follows (phases.Hash o) (at_hash o l) l
  unfolding delay_value
  hash_ok o looks.Number d s t ts h = rw (h, kept t s) refl
  hash_ok o looks.Zero d s t ts h = rw (h, kept t s) refl
  hash_ok o looks.One d s t ts h = rw (h, kept t s) refl
  hash_ok o looks.Name d s t ts h = rw h (bind3 (of actions.CheckName t s) _ (t ∷ ts) _ _ _)
  hash_ok o looks.Open d s t ts h = parentheses_open o n refl d s t ts h
  hash_ok o l d s t ts h = no_value o s t ts (rw h refl) (rw h refl) (rw h refl)

  -- ---- all of them

  pub follows : (p : ModulePhase) (s : ModuleText) (t : Left) (ts : List Left) → IsOpen n p
      → read (to_come source limits n p) s (t ∷ ts) ≡ outcome (module_move p t.token.span.line (look_of source t)) t s ts
  follows phases.Header s t ts d = header_ok (look_of source t) s t ts refl
  follows phases.Ports s t ts d = ports_ok (look_of source t) s t ts refl
  follows phases.Port s t ts d = port_ok (look_of source t) s t ts refl
  follows phases.PortNet s t ts d = port_net_ok (look_of source t) s t ts refl
  follows phases.PortName s t ts d = port_name_ok (look_of source t) s t ts refl
  follows phases.PortEnd s t ts d = port_end_ok (look_of source t) s t ts refl
  follows phases.HeaderEnd s t ts d = header_end_ok (look_of source t) s t ts refl
  follows phases.Items s t ts d = items_ok (look_of source t) s t ts refl
  follows phases.Name s t ts d = name_ok (look_of source t) s t ts refl
  follows phases.NameEnd s t ts d = name_end_ok (look_of source t) s t ts refl
  follows (phases.Kind o) s t ts d = kind_ok o (look_of source t) s t ts refl
  follows (phases.Hash o) s t ts d = hash_ok o (look_of source t) d s t ts refl
  follows (phases.Delay o depth) s t ts d = delay_ok o depth (look_of source t) d.0 d.1 s t ts refl
  follows (phases.Instance o) s t ts d = instance_ok o (look_of source t) s t ts refl
  follows (phases.Labelled o) s t ts d = labelled_ok o (look_of source t) s t ts refl
  follows (phases.Output o labelled) s t ts d = output_ok o labelled (look_of source t) s t ts refl
  follows (phases.Terminal o) s t ts d = terminal_ok o (look_of source t) s t ts refl
  follows (phases.TerminalEnd o) s t ts d = terminal_end_ok o (look_of source t) s t ts refl
  follows (phases.Last o) s t ts d = last_ok o (look_of source t) s t ts refl
  follows (phases.InstanceEnd o) s t ts d = instance_end_ok o (look_of source t) s t ts refl
  follows phases.Specify s t ts d = specify_ok (look_of source t) s t ts refl
  follows (phases.SpecifyLine line) s t ts d = specify_line_ok line (look_of source t) s t ts refl
  follows phases.Done s t ts d = absurd d
