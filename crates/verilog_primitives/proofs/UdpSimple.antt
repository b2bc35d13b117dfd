-- One item of look-ahead is enough to read a primitive.
use Rattle.std.proofs.Common.{◌≡◌, ℕ, Bool, true, false, ◌||◌, ◌&&◌, List, refl}
use Rattle.text_scan.specs.declared.limits.Limits.{Limits}
use Rattle.grammar.specs.Rule.{none, one, many}
use Rattle.grammar.specs.Reading.{IsSimple}
use Rattle.verilog_directives.specs.declared.left.Left.{Left}
use Rattle.verilog_looks.specs.declared.look.Look.{Look}
use Rattle.verilog_looks.specs.declared.look.Look.TheVariants as looks
use Rattle.verilog_primitives.specs.declared.udp_phase.UdpAction.TheVariants as actions
use Rattle.verilog_looks.specs.Looks.{text, look_of, is_name, is_reg, is_output, is_input, is_udp_declaration, is_initial, is_table, is_end_table, is_comma, is_semicolon, is_stated, is_symbolic, has_symbols, are_symbols}
use Rattle.verilog_primitives.specs.UdpActions.{perform_udp}
use Rattle.verilog_primitives.specs.UdpGrammar.{UdpRule, act, udp_port_name, output_port, udp_port, further_udp_ports, udp_name, further_udp_names, udp_names_end, udp_names, udp_declaration, symbols, row_end, row, udp_end, table_end, rows, table, stated, statement_end, statement, after_declarations, declarations, udp_header_end, udp_ports_end, udp_ports, udp_body}

module _ (source : List ℕ) (limits : Limits) where
  -- no item that looks so is in next
  abbrev Not : Look → (Left → Bool) → Type 0
  Not l next = (t : Left) → look_of source t ≡ l → next t ≡ false

  by : (p : Look → Bool) (next : Left → Bool) → ((l : Look) → p l ≡ true → Not l next) → (t : Left) → p (look_of source t) ≡ true → next t ≡ false
  by p next h t e = h (look_of source t) e t refl

  -- a comma before further things, and another sign after them
  commas : (a : UdpRule) (next : Left → Bool) → ((other : Left → Bool) → IsSimple a other) → Not looks.Comma next → IsSimple (many (act source limits is_comma actions.Keep a)) next
  unfolding IsSimple
  commas a next h n = (refl, refl, by is_comma next first, (λ t e. h (λ u. is_comma (look_of source u) || next u)))
    where
      first : (l : Look) → is_comma l ≡ true → Not l next
      first looks.Comma e = n
      first _ e = absurd cc

  -- ---- the header

  output_port_simple : (next : Left → Bool) → IsSimple (output_port source limits) next
  unfolding output_port udp_port_name IsSimple
  output_port_simple next = (refl, by is_reg _ first, (λ t e u g. tt), (λ t e. tt))
    where
      first : (l : Look) → is_reg l ≡ true → Not l (λ t. is_name (look_of source t) || (false && next t))
      first looks.Reg e = λ t g. rw g refl
      first _ e = absurd cc

  port_simple : (next : Left → Bool) → IsSimple (udp_port source limits) next
  unfolding udp_port udp_port_name IsSimple
  port_simple next = (refl, by is_output _ first, (λ t e. output_port_simple next), (refl, by is_input _ second, (λ t e u g. tt), (λ t e. tt)))
    where
      first : (l : Look) → is_output l ≡ true → Not l (λ t. (is_input (look_of source t) || is_name (look_of source t)) || ((false || false) && next t))
      first looks.Output e = λ t g. rw g refl
      first _ e = absurd cc

      second : (l : Look) → is_input l ≡ true → Not l (λ t. is_name (look_of source t) || (false && next t))
      second looks.Input e = λ t g. rw g refl
      second _ e = absurd cc

  pub further_port : (next : Left → Bool) → IsSimple (act source limits is_comma actions.Keep (udp_port source limits)) next
  unfolding IsSimple
  further_port next = λ t e. port_simple next

  -- ---- declarations

  pub further_name : (next : Left → Bool) → IsSimple (act source limits is_comma actions.Keep (udp_name source limits)) next
  unfolding udp_name IsSimple
  further_name next = λ t e u g. tt

  pub declaration_simple : (next : Left → Bool) → IsSimple (udp_declaration source limits) next
  unfolding udp_declaration udp_names udp_name further_udp_names udp_names_end IsSimple
  declaration_simple next = λ t e. (((λ u g. tt), commas (udp_name source limits) _ (λ other u g. tt) (λ u g. rw g refl)), (λ u g. tt))

  -- ---- the table

  pub symbols_one : (next : Left → Bool) → IsSimple (one (are_symbols source) (λ t s. perform_udp source limits actions.AddSymbols t s) (λ t. none)) next
  unfolding IsSimple
  symbols_one next = λ t e. tt

  symbols_first : (p : Look → Bool) → ((l : Look) → is_symbolic l ≡ true → p l ≡ false) → (t : Left) → are_symbols source t ≡ true → p (look_of source t) ≡ false
  unfolding are_symbols
  symbols_first p h t e = h (look_of source t) (go (is_symbolic (look_of source t)) (has_symbols (text source t.token)) e)
    where
      go : (x y : Bool) → (x && y) ≡ true → x ≡ true
      go true y g = refl
      go false y g = absurd cc

  no_semicolon : (l : Look) → is_symbolic l ≡ true → is_semicolon l ≡ false
  no_semicolon looks.Semicolon e = absurd cc
  no_semicolon _ e = refl

  no_end_table : (l : Look) → is_symbolic l ≡ true → is_end_table l ≡ false
  no_end_table looks.EndTable e = absurd cc
  no_end_table _ e = refl

  or_nothing : (x y : Bool) → x ≡ false → (x || (false && y)) ≡ false
  or_nothing true y e = absurd cc
  or_nothing false y e = refl

  pub row_simple : (next : Left → Bool) → IsSimple (row source limits) next
  unfolding row symbols row_end IsSimple
  row_simple next = ((refl, refl, (λ t e. or_nothing (is_semicolon (look_of source t)) (next t) (symbols_first is_semicolon no_semicolon t e)), (λ t e. tt)), (λ t e. tt))

  rows_simple : (next : Left → Bool) → IsSimple (rows source limits) next
  unfolding rows row symbols row_end table_end udp_end IsSimple
  rows_simple next = ((refl, refl, first, row_simple (λ t. (are_symbols source t || is_semicolon (look_of source t)) || (is_end_table (look_of source t) || (false && next t)))), (λ t e u g. tt))
    where
      semicolons : (l : Look) → is_semicolon l ≡ true → Not l (λ t. is_end_table (look_of source t) || (false && next t))
      semicolons looks.Semicolon e = λ t g. rw g refl
      semicolons _ e = absurd cc

      either : (t : Left) (x : Bool) → are_symbols source t ≡ x → (x || is_semicolon (look_of source t)) ≡ true → (is_end_table (look_of source t) || (false && next t)) ≡ false
      either t true g e = or_nothing (is_end_table (look_of source t)) (next t) (symbols_first is_end_table no_end_table t g)
      either t false g e = by is_semicolon (λ u. is_end_table (look_of source u) || (false && next u)) semicolons t e

      first : (t : Left) → (are_symbols source t || is_semicolon (look_of source t)) ≡ true → (is_end_table (look_of source t) || (false && next t)) ≡ false
      first t e = either t (are_symbols source t) refl e

  table_simple : (next : Left → Bool) → IsSimple (table source limits) next
  unfolding table IsSimple
  table_simple next = λ t e. rows_simple next

  -- ---- the primitive

  pub stated_one : (next : Left → Bool) → IsSimple (act source limits is_stated actions.Keep none) next
  unfolding IsSimple
  stated_one next = λ t e. tt

  statement_simple : (next : Left → Bool) → IsSimple (statement source limits) next
  unfolding statement stated statement_end IsSimple
  statement_simple next = ((refl, refl, by is_stated _ first, (λ t e. tt)), (λ t e. table_simple next))
    where
      first : (l : Look) → is_stated l ≡ true → Not l (λ t. is_semicolon (look_of source t) || (false && next t))
      first looks.Semicolon e = absurd cc
      first looks.Barred e = absurd cc
      first looks.End e = absurd cc
      first _ e = λ t g. rw g refl

  after_simple : (next : Left → Bool) → IsSimple (after_declarations source limits) next
  unfolding after_declarations table IsSimple
  after_simple next = (refl, by is_initial _ first, (λ t e. statement_simple next), (λ t e. rows_simple next))
    where
      first : (l : Look) → is_initial l ≡ true → Not l (λ t. is_table (look_of source t) || (false && next t))
      first looks.Initial e = λ t g. rw g refl
      first _ e = absurd cc

  declarations_simple : (next : Left → Bool) → IsSimple (declarations source limits) next
  unfolding declarations udp_declaration after_declarations table IsSimple
  declarations_simple next = ((refl, refl, by is_udp_declaration _ first, declaration_simple _), after_simple next)
    where
      first : (l : Look) → is_udp_declaration l ≡ true → Not l (λ t. (is_initial (look_of source t) || is_table (look_of source t)) || ((false || false) && next t))
      first looks.Input e = λ t g. rw g refl
      first looks.Output e = λ t g. rw g refl
      first looks.Reg e = λ t g. rw g refl
      first _ e = absurd cc

  pub udp_simple : (next : Left → Bool) → IsSimple (udp_body source limits) next
  unfolding udp_body udp_ports further_udp_ports udp_ports_end udp_header_end IsSimple
  udp_simple next = λ t e. ((port_simple _, commas (udp_port source limits) _ port_simple (λ u g. rw g refl)), (λ u g v i. declarations_simple next))
