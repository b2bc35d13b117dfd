-- One item of look-ahead is enough to read a module.
use Rattle.std.proofs.Common.{◌≡◌, ℕ, zero, suc, Bool, true, false, ◌||◌, ◌&&◌, ◌==◌, List, refl, ◌∙◌, if◌then◌else◌}
use Rattle.text_scan.specs.declared.limits.Limits.{Limits}
use Rattle.grammar.specs.Rule.{none, seq, alt, many, one}
use Rattle.grammar.specs.Reading.{nullable, short, begins, IsSimple}
use Rattle.verilog_directives.specs.declared.left.Left.{Left}
use Rattle.verilog_looks.specs.declared.look.Look.{Look}
use Rattle.verilog_looks.specs.declared.look.Look.TheVariants as looks
use Rattle.verilog_modules.specs.declared.module_phase.ModuleAction.{ModuleAction}
use Rattle.verilog_modules.specs.declared.module_phase.ModuleAction.TheVariants as actions
use Rattle.verilog_looks.specs.Looks.{look_of, is_name, is_gate, is_buffer, is_end_module, is_direction, is_net, is_declaration, is_specify, is_end_specify, is_constant, is_number, is_open, is_close, is_comma, is_semicolon, is_hash, is_macro, is_end, is_passed, is_between, is_specified}
use Rattle.verilog_modules.specs.ModuleActions.{perform}
use Rattle.verilog_modules.specs.ModuleGrammar.{ModuleRule, act, is_beside, port_name, net_port, port, further_ports, declared_name, further_names, names_end, names, declaration, closing, parentheses, delay_value, delay, last, terminal, further_terminals, terminals_end, terminals, connections, instance, further_instances, instances_end, instances, delayed, elements, beside_line, macro_line, specified, specify_end, specify, item, module_end, items, header_end, ports_end, listed, ports, module_body}

module _ (source : List ℕ) (limits : Limits) where
  -- no item that looks so is in next
  abbrev pub Not : Look → (Left → Bool) → Type 0
  Not l next = (t : Left) → look_of source t ≡ l → next t ≡ false

  pub by : (p : Look → Bool) (next : Left → Bool) → ((l : Look) → p l ≡ true → Not l next) → (t : Left) → p (look_of source t) ≡ true → next t ≡ false
  by p next h t e = h (look_of source t) e t refl

  -- ---- the header

  net_port_simple : (next : Left → Bool) → IsSimple (net_port source limits) next
  unfolding net_port port_name IsSimple
  net_port_simple next = (refl, by is_net _ first, (λ t e u g. tt), (λ t e. tt))
    where
      first : (l : Look) → is_net l ≡ true → Not l (λ t. is_name (look_of source t) || (false && next t))
      first looks.Wire e = λ t g. rw g refl
      first looks.Reg e = λ t g. rw g refl
      first _ e = absurd cc

  pub port_simple : (next : Left → Bool) → IsSimple (port source limits) next
  unfolding port port_name IsSimple
  port_simple next = (refl, by is_direction _ first, (λ t e. net_port_simple next), (λ t e. tt))
    where
      first : (l : Look) → is_direction l ≡ true → Not l (λ t. is_name (look_of source t) || (false && next t))
      first looks.Input e = λ t g. rw g refl
      first looks.Output e = λ t g. rw g refl
      first looks.Inout e = λ t g. rw g refl
      first _ e = absurd cc

  pub further_port : (next : Left → Bool) → IsSimple (act source limits is_comma actions.Keep (port source limits)) next
  unfolding IsSimple
  further_port next = λ t e. port_simple next

  -- a comma before further things, and another sign after them
  commas : (a : ModuleRule) (next : Left → Bool) → ((other : Left → Bool) → IsSimple a other) → Not looks.Comma next → IsSimple (many (act source limits is_comma actions.Keep a)) next
  unfolding IsSimple
  commas a next h n = (refl, refl, by is_comma next first, (λ t e. h (λ u. is_comma (look_of source u) || next u)))
    where
      first : (l : Look) → is_comma l ≡ true → Not l next
      first looks.Comma e = n
      first _ e = absurd cc

  -- ---- declarations

  pub names_simple : (next : Left → Bool) → IsSimple (names source limits) next
  unfolding names declared_name further_names names_end IsSimple
  names_simple next = (((λ t e. tt), commas (declared_name source limits) _ (λ other t e. tt) (λ t g. rw g refl)), (λ t e. tt))

  pub further_name : (next : Left → Bool) → IsSimple (act source limits is_comma actions.Keep (declared_name source limits)) next
  unfolding declared_name IsSimple
  further_name next = λ t e u g. tt

  pub beside_one : (line : ℕ) (next : Left → Bool) → IsSimple (one (is_beside source line) (λ t s. perform source limits actions.Keep t s) (λ t. none)) next
  unfolding IsSimple
  beside_one line next = λ t e. tt

  -- ---- delays

  -- parentheses, whose rule begins with the open one
  pub record Parentheses (rule : ModuleRule) : Type 0 where
    pub full : nullable rule ≡ false
    pub some : short rule ≡ false
    pub first : (t : Left) → begins rule t ≡ is_open (look_of source t)
    pub simple : (next : Left → Bool) → IsSimple rule next

  pub between_simple : (rule : ModuleRule) → Parentheses rule → (next : Left → Bool) → IsSimple (alt (act source limits is_between actions.Keep none) rule) next
  unfolding IsSimple
  between_simple rule p next = (refl, by is_between _ first, (λ t e. tt), p.simple next)
    where
      ok : (l : Look) (t : Left) → look_of source t ≡ l → is_open l ≡ false → (begins rule t || (nullable rule && next t)) ≡ false
      ok l t g e = let b : begins rule t ≡ false = p.first t ∙ rw g e in let f = p.full in rw (b, f) refl

      first : (l : Look) → is_between l ≡ true → Not l (λ t. begins rule t || (nullable rule && next t))
      first looks.Open e = absurd cc
      first looks.Close e = absurd cc
      first looks.Barred e = absurd cc
      first looks.End e = absurd cc
      first l e = λ t g. ok l t g refl

  in_parentheses : (rule : ModuleRule) → Parentheses rule → (next : Left → Bool) → IsSimple (seq (many (alt (act source limits is_between actions.Keep none) rule)) (closing source limits)) next
  unfolding closing IsSimple
  in_parentheses rule p next = ((p.full, p.some, apart, between_simple rule p _), (λ t e. tt))
    where
      ok : (t : Left) (l : Look) → look_of source t ≡ l → (is_between l || is_open l) ≡ true → (is_close l || (false && next t)) ≡ false
      ok t looks.Close g e = absurd cc
      ok t looks.Barred g e = refl
      ok t looks.End g e = refl
      ok t looks.Open g e = refl
      ok t _ g e = refl

      apart : (t : Left) → (is_between (look_of source t) || begins rule t) ≡ true → (is_close (look_of source t) || (false && next t)) ≡ false
      apart t e = ok t (look_of source t) refl (rw (← p.first t) e)

  pub parentheses_are : (n : ℕ) → Parentheses (parentheses source limits n)
  unfolding parentheses IsSimple
  parentheses_are zero = record { full = refl; some = refl; first = λ t. refl; simple = λ next t e. tt }
  parentheses_are (suc n) = record { full = refl; some = refl; first = λ t. refl; simple = λ next t e. in_parentheses (parentheses source limits n) (parentheses_are n) next }

  delay_value_simple : (n : ℕ) (next : Left → Bool) → IsSimple (delay_value source limits n) next
  unfolding delay_value IsSimple
  delay_value_simple n next = (refl, by is_number _ first, (λ t e. tt), (refl, by is_name _ second, (λ t e. tt), p.simple next))
    where
      p : Parentheses (parentheses source limits n)
      p = parentheses_are n

      closed : (t : Left) (l : Look) → look_of source t ≡ l → is_open l ≡ false → (begins (parentheses source limits n) t || (nullable (parentheses source limits n) && next t)) ≡ false
      closed t l g e = let b : begins (parentheses source limits n) t ≡ false = p.first t ∙ rw g e in let f = p.full in rw (b, f) refl

      second : (l : Look) → is_name l ≡ true → Not l (λ t. begins (parentheses source limits n) t || (nullable (parentheses source limits n) && next t))
      second looks.Name e = λ t g. closed t looks.Name g refl
      second _ e = absurd cc

      neither : (t : Left) (l : Look) → look_of source t ≡ l → is_open l ≡ false → is_name l ≡ false
          → ((is_name (look_of source t) || begins (parentheses source limits n) t) || ((false || nullable (parentheses source limits n)) && next t)) ≡ false
      neither t l g e i =
          let b : begins (parentheses source limits n) t ≡ false = p.first t ∙ rw g e in
          let c : is_name (look_of source t) ≡ false = rw g i in
          let f = p.full in rw (b, c, f) refl

      first : (l : Look) → is_number l ≡ true → Not l (λ t. (is_name (look_of source t) || begins (parentheses source limits n) t) || ((false || nullable (parentheses source limits n)) && next t))
      first looks.Number e = λ t g. neither t looks.Number g refl refl
      first looks.Zero e = λ t g. neither t looks.Zero g refl refl
      first looks.One e = λ t g. neither t looks.One g refl refl
      first _ e = absurd cc

  -- ---- instances

  last_simple : (o : Bool) (next : Left → Bool) → IsSimple (last source limits o) next
  unfolding IsSimple
  last_simple true next = tt
  last_simple false next = tt

  terminal_simple : (o : Bool) (next : Left → Bool) → IsSimple (terminal source limits o) next
  unfolding terminal IsSimple
  terminal_simple o next = (refl, by is_name _ first, (λ t e. tt), (λ t e. last_simple o next))
    where
      first : (l : Look) → is_name l ≡ true → Not l (λ t. is_constant (look_of source t) || (false && next t))
      first looks.Name e = λ t g. rw g refl
      first _ e = absurd cc

  pub further_terminal : (o : Bool) (next : Left → Bool) → IsSimple (act source limits is_comma actions.Keep (terminal source limits o)) next
  unfolding IsSimple
  further_terminal o next = λ t e. terminal_simple o next

  terminals_simple : (o : Bool) (a : ModuleAction) (next : Left → Bool) → IsSimple (terminals source limits o a) next
  unfolding terminals further_terminals terminals_end IsSimple
  terminals_simple o a next = (((λ t e. tt), commas (terminal source limits o) _ (λ other. terminal_simple o other) (λ t g. rw g refl)), (λ t e. tt))

  instance_simple : (o : Bool) (next : Left → Bool) → IsSimple (instance source limits o) next
  unfolding instance connections IsSimple
  instance_simple o next = (refl, by is_name _ first, (λ t e u g. terminals_simple o actions.AddNet next), (λ t e. terminals_simple o actions.AddOutput next))
    where
      first : (l : Look) → is_name l ≡ true → Not l (λ t. is_open (look_of source t) || (false && next t))
      first looks.Name e = λ t g. rw g refl
      first _ e = absurd cc

  pub further_instance : (o : Bool) (next : Left → Bool) → IsSimple (act source limits is_comma actions.Keep (instance source limits o)) next
  unfolding IsSimple
  further_instance o next = λ t e. instance_simple o next

  instances_simple : (o : Bool) (next : Left → Bool) → IsSimple (instances source limits o) next
  unfolding instances further_instances instances_end instance IsSimple
  instances_simple o next = ((instance_simple o _, commas (instance source limits o) _ (λ other. instance_simple o other) (λ t g. rw g refl)), (λ t e. tt))

  delayed_simple : (n : ℕ) (o : Bool) (next : Left → Bool) → IsSimple (delayed source limits n o) next
  unfolding delayed delay instances instance connections IsSimple
  delayed_simple n o next = (refl, by (λ l. is_hash l || false) _ first, ((λ t e. delay_value_simple n _), instances_simple o next), instances_simple o next)
    where
      first : (l : Look) → (is_hash l || false) ≡ true → Not l (λ t. begins (instances source limits o) t || (nullable (instances source limits o) && next t))
      first looks.Hash e = λ t g. rw g refl
      first _ e = absurd cc

  elements_simple : (n : ℕ) (next : Left → Bool) → IsSimple (elements source limits n) next
  unfolding elements IsSimple
  elements_simple n next = (refl, by is_name _ first, (λ t e. delayed_simple n false next), (refl, by is_gate _ second, (λ t e. delayed_simple n false next), (λ t e. delayed_simple n true next)))
    where
      first : (l : Look) → is_name l ≡ true → Not l (λ t. (is_gate (look_of source t) || is_buffer (look_of source t)) || ((false || false) && next t))
      first looks.Name e = λ t g. rw g refl
      first _ e = absurd cc

      second : (l : Look) → is_gate l ≡ true → Not l (λ t. is_buffer (look_of source t) || (false && next t))
      second looks.Gate e = λ t g. rw g refl
      second _ e = absurd cc

  -- ---- specify blocks

  on_not_off : (x z : Bool) (l : Look) → (x && is_passed l) ≡ true → ((if x then is_end l else true) || (false && z)) ≡ false
  on_not_off true z looks.Barred e = absurd cc
  on_not_off true z looks.End e = absurd cc
  on_not_off true z l e = refl
  on_not_off false z l e = absurd cc

  pub beside_simple : (line : ℕ) (next : Left → Bool) → IsSimple (beside_line source limits line) next
  unfolding beside_line IsSimple
  beside_simple line next = ((refl, refl, (λ t e. on_not_off (t.token.span.line == line) (next t) (look_of source t) e), (λ t e. tt)), tt)

  pub specified_one : (next : Left → Bool) → IsSimple (alt (act source limits is_specified actions.Keep none) (macro_line source limits)) next
  unfolding macro_line IsSimple
  specified_one next = (refl, by is_specified _ first, (λ t e. tt), (λ m e. beside_simple m.token.span.line next))
    where
      first : (l : Look) → is_specified l ≡ true → Not l (λ t. is_macro (look_of source t) || (false && next t))
      first looks.Macro e = absurd cc
      first looks.EndSpecify e = absurd cc
      first looks.Barred e = absurd cc
      first looks.End e = absurd cc
      first _ e = λ t g. rw g refl

  specify_simple : (next : Left → Bool) → IsSimple (specify source limits) next
  unfolding specify specified specify_end macro_line IsSimple
  specify_simple next = λ t e. ((refl, refl, by (λ l. is_specified l || is_macro l) _ first, specified_one _), (λ t e. tt))
    where
      first : (l : Look) → (is_specified l || is_macro l) ≡ true → Not l (λ t. is_end_specify (look_of source t) || (false && next t))
      first looks.EndSpecify e = absurd cc
      first looks.Barred e = absurd cc
      first looks.End e = absurd cc
      first _ e = λ t g. rw g refl

  -- ---- the module

  pub item_simple : (n : ℕ) (next : Left → Bool) → IsSimple (item source limits n) next
  unfolding item declaration elements specify IsSimple
  item_simple n next = (refl, by is_declaration _ first, (λ t e. names_simple next), (refl, by (λ l. is_name l || (is_gate l || is_buffer l)) _ second, elements_simple n next, specify_simple next))
    where
      first : (l : Look) → is_declaration l ≡ true → Not l (λ t. begins (alt (elements source limits n) (specify source limits)) t || (nullable (alt (elements source limits n) (specify source limits)) && next t))
      first looks.Input e = λ t g. rw g refl
      first looks.Output e = λ t g. rw g refl
      first looks.Inout e = λ t g. rw g refl
      first looks.Wire e = λ t g. rw g refl
      first looks.Reg e = λ t g. rw g refl
      first looks.Supply0 e = λ t g. rw g refl
      first looks.Supply1 e = λ t g. rw g refl
      first _ e = absurd cc

      second : (l : Look) → (is_name l || (is_gate l || is_buffer l)) ≡ true → Not l (λ t. begins (specify source limits) t || (nullable (specify source limits) && next t))
      second looks.Name e = λ t g. rw g refl
      second looks.Gate e = λ t g. rw g refl
      second looks.Buffer e = λ t g. rw g refl
      second _ e = absurd cc

  items_simple : (n : ℕ) (next : Left → Bool) → IsSimple (items source limits n) next
  unfolding items item declaration elements specify module_end IsSimple
  items_simple n next = ((refl, refl, by (λ l. is_declaration l || ((is_name l || (is_gate l || is_buffer l)) || is_specify l)) _ first, item_simple n _), (λ t e. tt))
    where
      first : (l : Look) → (is_declaration l || ((is_name l || (is_gate l || is_buffer l)) || is_specify l)) ≡ true → Not l (λ t. is_end_module (look_of source t) || (false && next t))
      first looks.EndModule e = absurd cc
      first looks.Module e = absurd cc
      first looks.Name e = λ t g. rw g refl
      first looks.Gate e = λ t g. rw g refl
      first looks.Buffer e = λ t g. rw g refl
      first looks.Input e = λ t g. rw g refl
      first looks.Output e = λ t g. rw g refl
      first looks.Inout e = λ t g. rw g refl
      first looks.Wire e = λ t g. rw g refl
      first looks.Reg e = λ t g. rw g refl
      first looks.Supply0 e = λ t g. rw g refl
      first looks.Supply1 e = λ t g. rw g refl
      first looks.Specify e = λ t g. rw g refl
      first _ e = absurd cc

  listed_simple : (n : ℕ) (next : Left → Bool) → IsSimple (listed source limits n) next
  unfolding listed further_ports ports_end header_end IsSimple
  listed_simple n next = ((port_simple _, commas (port source limits) _ port_simple (λ t g. rw g refl)), (λ t e u g. items_simple n next))

  ports_simple : (n : ℕ) (next : Left → Bool) → IsSimple (ports source limits n) next
  unfolding ports ports_end header_end listed port port_name IsSimple
  ports_simple n next = (refl, by is_close _ first, (λ t e u g. items_simple n next), listed_simple n next)
    where
      first : (l : Look) → is_close l ≡ true → Not l (λ t. begins (listed source limits n) t || (nullable (listed source limits n) && next t))
      first looks.Close e = λ t g. rw g refl
      first _ e = absurd cc

  pub module_simple : (n : ℕ) (next : Left → Bool) → IsSimple (module_body source limits n) next
  unfolding module_body header_end IsSimple
  module_simple n next = (refl, by is_open _ first, (λ t e. ports_simple n next), (λ t e. items_simple n next))
    where
      first : (l : Look) → is_open l ≡ true → Not l (λ t. is_semicolon (look_of source t) || (false && next t))
      first looks.Open e = λ t g. rw g refl
      first _ e = absurd cc
