-- Each item of a primitive leads to what the grammar says.
use Rattle.std.proofs.Common.{◌≡◌, ℕ, Bool, true, false, ◌||◌, List, ◌∷◌, Result, Ok, Err, refl, ap, ◌∙◌}
use Rattle.text_scan.specs.declared.limits.Limits.{Limits}
use Rattle.grammar.specs.Rule.{none, one, many}
use Rattle.grammar.specs.Reading.{syntax, refusal, begins, acting, ◌>>=◌, read}
use Rattle.verilog_directives.specs.declared.left.Left.{Left}
use Rattle.verilog_looks.specs.declared.halt.Refusal.{Refusal}
use Rattle.verilog_looks.specs.declared.look.Look.{Look}
use Rattle.verilog_looks.specs.declared.look.Look.TheVariants as looks
use Rattle.verilog_primitives.specs.declared.udp_text.PrimitiveText.{PrimitiveText}
use Rattle.verilog_primitives.specs.declared.udp_phase.UdpPhase.{UdpPhase}
use Rattle.verilog_primitives.specs.declared.udp_phase.UdpPhase.TheVariants as phases
use Rattle.verilog_primitives.specs.declared.udp_phase.UdpAction.{UdpAction}
use Rattle.verilog_primitives.specs.declared.udp_phase.UdpAction.TheVariants as actions
use Rattle.verilog_primitives.specs.declared.udp_phase.UdpMove.{UdpMove}
use Rattle.verilog_primitives.specs.declared.udp_phase.UdpMove.TheVariants as moves
use Rattle.verilog_looks.specs.Looks.{look_of, is_comma, is_stated, is_semicolon, are_symbols}
use Rattle.verilog_primitives.specs.UdpActions.{perform_udp}
use Rattle.verilog_primitives.specs.UdpGrammar.{UdpRule, act, udp_port_name, output_port, udp_port, further_udp_ports, udp_name, further_udp_names, udp_names_end, udp_names, udp_declaration, symbols, row_end, row, udp_end, table_end, rows, table, stated, statement_end, statement, after_declarations, declarations, udp_header_end, udp_ports_end, udp_ports, udp_body}
use Rattle.verilog_primitives.specs.UdpMoves.{at_header, at_port, at_output_port, at_port_name, at_port_end, at_header_end, at_table_word, at_declarations, at_name, at_name_end, at_initial, at_row, at_rows, at_table_end, udp_move}
use Rattle.verilog_primitives.specs.UdpToCome.{to_come, Reading}
use Rattle.verilog_primitives.specs.UdpBounds.{IsOpen}
use Rattle.verilog_looks.proofs.Binds.{bind2, bind4}
use Rattle.verilog_looks.proofs.Repeats.{turns, ends}
use Rattle.verilog_primitives.proofs.UdpSimple.{further_port, further_name, declaration_simple, symbols_one, row_simple, stated_one}

module _ (source : List ℕ) (limits : Limits) where
  abbrev on : UdpRule → PrimitiveText × List Left → Reading
  on c x = read c x.0 x.1

  -- what reading gives where an item does this
  abbrev pub outcome : UdpMove → Left → PrimitiveText → List Left → Reading
  outcome moves.Stop t s ts = Err (syntax (t ∷ ts))
  outcome (moves.Go a p) t s ts = acting (perform_udp source limits a t s) (λ m. read (to_come source limits p) m ts) (λ e. Err (refusal e (t ∷ ts)))

  abbrev Follows : UdpPhase → UdpMove → Look → Type 0
  Follows p move l = (s : PrimitiveText) (t : Left) (ts : List Left) → look_of source t ≡ l → read (to_come source limits p) s (t ∷ ts) ≡ outcome move t s ts

  kept : (t : Left) (s : PrimitiveText) → perform_udp source limits actions.Keep t s ≡ Ok s
  unfolding perform_udp
  kept t s = refl

  abbrev of : UdpAction → Left → PrimitiveText → Result PrimitiveText Refusal
  of a t s = perform_udp source limits a t s

  abbrev comma : UdpRule → UdpRule
  comma a = act source limits is_comma actions.Keep a

  -- ---- the header

  header_ok : (l : Look) → Follows phases.Header (at_header l) l
  unfolding udp_body
  header_ok looks.Open s t ts h = rw h refl
  header_ok _ s t ts h = rw h refl

  port_ok : (l : Look) → Follows phases.Port (at_port l) l
  unfolding udp_ports udp_port udp_port_name
  port_ok looks.Output s t ts h = rw h (bind2 (of actions.BeginOutput t s) _ (t ∷ ts) _ _)
  port_ok looks.Input s t ts h = rw h (bind2 (of actions.BeginInput t s) _ (t ∷ ts) _ _)
  port_ok looks.Name s t ts h = rw h (bind2 (of actions.AddPort t s) _ (t ∷ ts) _ _)
  port_ok _ s t ts h = rw h refl

  output_port_ok : (l : Look) → Follows phases.OutputPort (at_output_port l) l
  unfolding output_port udp_port_name
  output_port_ok looks.Reg s t ts h = rw h (bind2 (of actions.BeginOutputReg t s) _ (t ∷ ts) _ _)
  output_port_ok looks.Name s t ts h = rw h (bind2 (of actions.AddPort t s) _ (t ∷ ts) _ _)
  output_port_ok _ s t ts h = rw h refl

  port_name_ok : (l : Look) → Follows phases.PortName (at_port_name l) l
  unfolding udp_port_name
  port_name_ok looks.Name s t ts h = rw h (bind2 (of actions.AddPort t s) _ (t ∷ ts) _ _)
  port_name_ok _ s t ts h = rw h refl

  port_end_ok : (l : Look) → Follows phases.PortEnd (at_port_end l) l
  unfolding further_udp_ports udp_ports_end udp_ports
  port_end_ok looks.Comma s t ts h =
      ap (λ r. r >>= on (udp_ports_end source limits)) (turns (comma (udp_port source limits)) (λ u. false) (further_port source limits _) refl s t ts (rw h refl)) ∙ rw (h, kept t s) refl
  port_end_ok l s t ts h = ap (λ r. r >>= on (udp_ports_end source limits)) (ends (comma (udp_port source limits)) s t ts (rw h refl)) ∙ rw h refl

  header_end_ok : (l : Look) → Follows phases.HeaderEnd (at_header_end l) l
  unfolding udp_header_end
  header_end_ok looks.Semicolon s t ts h = rw h refl
  header_end_ok _ s t ts h = rw h refl

  -- ---- declarations

  abbrev declared : Reading → Reading
  declared r = r >>= on (declarations source limits)

  abbrev last_declared : Reading → Reading
  last_declared r = r >>= on (after_declarations source limits)

  turn_declaration : (s : PrimitiveText) (t : Left) (ts : List Left) → begins (udp_declaration source limits) t ≡ true
      → read (declarations source limits) s (t ∷ ts) ≡ last_declared (read (udp_declaration source limits) s (t ∷ ts) >>= on (many (udp_declaration source limits)))
  unfolding declarations udp_declaration
  turn_declaration s t ts h = ap last_declared (turns (udp_declaration source limits) (λ u. false) (declaration_simple source limits _) refl s t ts h)

  end_declarations : (s : PrimitiveText) (t : Left) (ts : List Left) → begins (udp_declaration source limits) t ≡ false → read (declarations source limits) s (t ∷ ts) ≡ read (after_declarations source limits) s (t ∷ ts)
  unfolding declarations
  end_declarations s t ts h = ap last_declared (ends (udp_declaration source limits) s t ts h)

  declarations_ok : (l : Look) → Follows phases.Declarations (at_declarations l) l
  unfolding udp_declaration after_declarations table
  declarations_ok looks.Output s t ts h = turn_declaration s t ts (rw h refl) ∙ rw h (bind2 (of actions.BeginDeclaration t s) _ (t ∷ ts) _ _)
  declarations_ok looks.Reg s t ts h = turn_declaration s t ts (rw h refl) ∙ rw h (bind2 (of actions.BeginDeclaration t s) _ (t ∷ ts) _ _)
  declarations_ok looks.Input s t ts h = turn_declaration s t ts (rw h refl) ∙ rw h (bind2 (of actions.BeginDeclaration t s) _ (t ∷ ts) _ _)
  declarations_ok l s t ts h = end_declarations s t ts (rw h refl) ∙ rw h refl

  name_ok : (l : Look) → Follows phases.Name (at_name l) l
  unfolding udp_names udp_name
  name_ok looks.Name s t ts h = rw h (bind4 (of actions.Declare t s) _ (t ∷ ts) _ _ _ _)
  name_ok _ s t ts h = rw h refl

  abbrev names_ended : Reading → Reading
  names_ended r = ((r >>= on (udp_names_end source limits)) >>= on (many (udp_declaration source limits))) >>= on (after_declarations source limits)

  name_end_ok : (l : Look) → Follows phases.NameEnd (at_name_end l) l
  unfolding further_udp_names udp_names_end udp_names declarations
  name_end_ok looks.Comma s t ts h =
      ap names_ended (turns (comma (udp_name source limits)) (λ u. false) (further_name source limits _) refl s t ts (rw h refl)) ∙ rw (h, kept t s) refl
  name_end_ok looks.Semicolon s t ts h = ap names_ended (ends (comma (udp_name source limits)) s t ts (rw h refl)) ∙ rw (h, kept t s) refl
  name_end_ok l s t ts h = ap names_ended (ends (comma (udp_name source limits)) s t ts (rw h refl)) ∙ rw h refl

  table_word_ok : (l : Look) → Follows phases.TableWord (at_table_word l) l
  unfolding table
  table_word_ok looks.Table s t ts h = rw h refl
  table_word_ok _ s t ts h = rw h refl

  -- ---- initial

  abbrev stated_item : UdpRule
  stated_item = act source limits is_stated actions.Keep none

  abbrev statement_ends : Reading → Reading
  statement_ends r = r >>= on (statement_end source limits)

  initial_ok : (l : Look) → Follows phases.Initial (at_initial l) l
  unfolding statement stated statement_end
  initial_ok looks.Semicolon s t ts h = ap statement_ends (ends stated_item s t ts (rw h refl)) ∙ rw h refl
  initial_ok looks.Barred s t ts h = ap statement_ends (ends stated_item s t ts (rw h refl)) ∙ rw h refl
  initial_ok looks.End s t ts h = ap statement_ends (ends stated_item s t ts (rw h refl)) ∙ rw h refl
  initial_ok l s t ts h = ap statement_ends (turns stated_item (λ u. false) (stated_one source limits _) refl s t ts (rw h refl)) ∙ rw (h, kept t s) refl

  -- ---- the table

  abbrev symbol_item : UdpRule
  symbol_item = one (are_symbols source) (λ u r. perform_udp source limits actions.AddSymbols u r) (λ u. none)

  abbrev rows_end : Reading → Reading
  rows_end r = r >>= on (table_end source limits)

  abbrev row_ends : Reading → Reading
  row_ends r = rows_end ((r >>= on (row_end source limits)) >>= on (many (row source limits)))

  row_ok : (b : Bool) (l : Look) (s : PrimitiveText) (t : Left) (ts : List Left) → are_symbols source t ≡ b → look_of source t ≡ l
      → read (to_come source limits phases.Row) s (t ∷ ts) ≡ outcome (at_row b l) t s ts
  unfolding row symbols row_end rows
  row_ok true l s t ts e h =
      ap row_ends (turns symbol_item (λ u. false) (symbols_one source limits _) refl s t ts e) ∙ rw e (bind4 (of actions.AddSymbols t s) _ (t ∷ ts) _ _ _ _)
  row_ok false looks.Semicolon s t ts e h = ap row_ends (ends symbol_item s t ts e) ∙ rw h (bind2 (of actions.EndRow t s) _ (t ∷ ts) _ _)
  row_ok false _ s t ts e h = ap row_ends (ends symbol_item s t ts e) ∙ rw h refl

  -- rows go on where a row begins
  rows_turn : (s : PrimitiveText) (t : Left) (ts : List Left) → begins (row source limits) t ≡ true → read (rows source limits) s (t ∷ ts) ≡ read (to_come source limits phases.Row) s (t ∷ ts)
  unfolding rows row symbols row_end
  rows_turn s t ts b = ap rows_end (turns (row source limits) (λ u. false) (row_simple source limits _) refl s t ts b)

  rows_stop : (s : PrimitiveText) (t : Left) (ts : List Left) → begins (row source limits) t ≡ false → read (rows source limits) s (t ∷ ts) ≡ read (table_end source limits) s (t ∷ ts)
  unfolding rows
  rows_stop s t ts b = ap rows_end (ends (row source limits) s t ts b)

  begins_row : (t : Left) → begins (row source limits) t ≡ (are_symbols source t || is_semicolon (look_of source t))
  unfolding row symbols row_end
  begins_row t = refl

  -- the end of the table is no symbol
  end_table : (t : Left) → look_of source t ≡ looks.EndTable → are_symbols source t ≡ false
  unfolding are_symbols
  end_table t h = rw h refl

  rows_ok : (b : Bool) (l : Look) (s : PrimitiveText) (t : Left) (ts : List Left) → are_symbols source t ≡ b → look_of source t ≡ l
      → read (to_come source limits phases.Rows) s (t ∷ ts) ≡ outcome (at_rows b l) t s ts
  unfolding table_end
  rows_ok b looks.EndTable s t ts e h = let no = end_table t h in rows_stop s t ts (begins_row t ∙ rw (no, h) refl) ∙ rw h refl
  rows_ok true l s t ts e h = rows_turn s t ts (begins_row t ∙ rw e refl) ∙ row_ok true l s t ts e h
  rows_ok false looks.Semicolon s t ts e h = rows_turn s t ts (begins_row t ∙ rw (e, h) refl) ∙ row_ok false looks.Semicolon s t ts e h
  rows_ok false l s t ts e h = rows_stop s t ts (begins_row t ∙ rw (e, h) refl) ∙ rw h refl

  table_end_ok : (l : Look) → Follows phases.TableEnd (at_table_end l) l
  unfolding udp_end
  table_end_ok looks.EndPrimitive s t ts h = rw h refl
  table_end_ok _ s t ts h = rw h refl

  -- ---- all of them

  pub follows : (p : UdpPhase) (s : PrimitiveText) (t : Left) (ts : List Left) → IsOpen p
      → read (to_come source limits p) s (t ∷ ts) ≡ outcome (udp_move p (are_symbols source t) (look_of source t)) t s ts
  follows phases.Header s t ts d = header_ok (look_of source t) s t ts refl
  follows phases.Port s t ts d = port_ok (look_of source t) s t ts refl
  follows phases.OutputPort s t ts d = output_port_ok (look_of source t) s t ts refl
  follows phases.PortName s t ts d = port_name_ok (look_of source t) s t ts refl
  follows phases.PortEnd s t ts d = port_end_ok (look_of source t) s t ts refl
  follows phases.HeaderEnd s t ts d = header_end_ok (look_of source t) s t ts refl
  follows phases.Declarations s t ts d = declarations_ok (look_of source t) s t ts refl
  follows phases.Name s t ts d = name_ok (look_of source t) s t ts refl
  follows phases.NameEnd s t ts d = name_end_ok (look_of source t) s t ts refl
  follows phases.Initial s t ts d = initial_ok (look_of source t) s t ts refl
  follows phases.TableWord s t ts d = table_word_ok (look_of source t) s t ts refl
  follows phases.Rows s t ts d = rows_ok (are_symbols source t) (look_of source t) s t ts refl refl
  follows phases.Row s t ts d = row_ok (are_symbols source t) (look_of source t) s t ts refl refl
  follows phases.TableEnd s t ts d = table_end_ok (look_of source t) s t ts refl
  follows phases.Done s t ts d = absurd d
