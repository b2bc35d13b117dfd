-- The grammar of a user-defined primitive after its name (IEEE 1364-2005, clause 8).
use Rattle.std.specs.Prelude.{ℕ, Bool, List}
use Rattle.text_scan.specs.declared.limits.Limits.{Limits}
use Rattle.grammar.specs.Rule.{Rule, none, one, seq, alt, many}
use Rattle.verilog_directives.specs.declared.left.Left.{Left}
use Rattle.verilog_looks.specs.declared.halt.Refusal.{Refusal}
use Rattle.verilog_looks.specs.declared.look.Look.{Look}
use Rattle.verilog_primitives.specs.declared.udp_text.PrimitiveText.{PrimitiveText}
use Rattle.verilog_primitives.specs.declared.udp_phase.UdpAction.{UdpAction}
use Rattle.verilog_primitives.specs.declared.udp_phase.UdpAction.TheVariants.{Keep, BeginOutput, BeginOutputReg, BeginInput, AddPort, BeginDeclaration, Declare, AddSymbols, EndRow}
use Rattle.verilog_looks.specs.Looks as looks
use Rattle.verilog_looks.specs.Looks.{look_of, are_symbols}
use Rattle.verilog_primitives.specs.UdpActions.{perform_udp}

abbrev pub UdpRule : Type 0
UdpRule = Rule Left PrimitiveText Refusal

-- an item that looks so, what it adds, and then what follows
abbrev pub act : List ℕ → Limits → (Look → Bool) → UdpAction → UdpRule → UdpRule
act source limits p a follows = one (λ t. p (look_of source t)) (λ t s. perform_udp source limits a t s) (λ t. follows)

module _ (source : List ℕ) (limits : Limits) where
  -- ---- the header

  unfoldable pub udp_port_name : UdpRule
  udp_port_name = act source limits looks.is_name AddPort none

  unfoldable pub output_port : UdpRule
  output_port = alt (act source limits looks.is_reg BeginOutputReg udp_port_name) udp_port_name

  -- a name alone, or after output, output reg or input
  unfoldable pub udp_port : UdpRule
  udp_port = alt (act source limits looks.is_output BeginOutput output_port) (alt (act source limits looks.is_input BeginInput udp_port_name) udp_port_name)

  unfoldable pub further_udp_ports : UdpRule
  further_udp_ports = many (act source limits looks.is_comma Keep udp_port)

  -- ---- declarations

  unfoldable pub udp_name : UdpRule
  udp_name = act source limits looks.is_name Declare none

  unfoldable pub further_udp_names : UdpRule
  further_udp_names = many (act source limits looks.is_comma Keep udp_name)

  unfoldable pub udp_names_end : UdpRule
  udp_names_end = act source limits looks.is_semicolon Keep none

  unfoldable pub udp_names : UdpRule
  udp_names = seq (seq udp_name further_udp_names) udp_names_end

  unfoldable pub udp_declaration : UdpRule
  udp_declaration = act source limits looks.is_udp_declaration BeginDeclaration udp_names

  -- ---- the table

  unfoldable pub symbols : UdpRule
  symbols = many (one (are_symbols source) (λ t s. perform_udp source limits AddSymbols t s) (λ t. none))

  unfoldable pub row_end : UdpRule
  row_end = act source limits looks.is_semicolon EndRow none

  unfoldable pub row : UdpRule
  row = seq symbols row_end

  unfoldable pub udp_end : UdpRule
  udp_end = act source limits looks.is_end_primitive Keep none

  unfoldable pub table_end : UdpRule
  table_end = act source limits looks.is_end_table Keep udp_end

  unfoldable pub rows : UdpRule
  rows = seq (many row) table_end

  unfoldable pub table : UdpRule
  table = act source limits looks.is_table Keep rows

  -- ---- the primitive

  unfoldable pub stated : UdpRule
  stated = many (act source limits looks.is_stated Keep none)

  unfoldable pub statement_end : UdpRule
  statement_end = act source limits looks.is_semicolon Keep table

  -- anything up to a semicolon, and the table
  unfoldable pub statement : UdpRule
  statement = seq stated statement_end

  unfoldable pub after_declarations : UdpRule
  after_declarations = alt (act source limits looks.is_initial Keep statement) table

  unfoldable pub declarations : UdpRule
  declarations = seq (many udp_declaration) after_declarations

  unfoldable pub udp_header_end : UdpRule
  udp_header_end = act source limits looks.is_semicolon Keep declarations

  unfoldable pub udp_ports_end : UdpRule
  udp_ports_end = act source limits looks.is_close Keep udp_header_end

  unfoldable pub udp_ports : UdpRule
  udp_ports = seq (seq udp_port further_udp_ports) udp_ports_end

  -- a port list, declarations, initial and its statement or none, and a table
  unfoldable pub udp_body : UdpRule
  udp_body = act source limits looks.is_open Keep udp_ports
