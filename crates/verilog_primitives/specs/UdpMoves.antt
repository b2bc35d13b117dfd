-- What an item does, where a reader of a primitive stands.
use Rattle.std.specs.Prelude.{ℕ, Bool, true, false, List, Result, Ok, Err}
use Rattle.text_scan.specs.declared.limits.Limits.{Limits}
use Rattle.verilog_directives.specs.declared.left.Left.{Left}
use Rattle.verilog_looks.specs.declared.halt.Halt.{Halt}
use Rattle.verilog_looks.specs.declared.halt.Halt.TheVariants as halts
use Rattle.verilog_looks.specs.declared.look.Look.{Look}
use Rattle.verilog_looks.specs.declared.look.Look.TheVariants as looks
use Rattle.verilog_primitives.specs.declared.udp_phase.UdpPhase.{UdpPhase}
use Rattle.verilog_primitives.specs.declared.udp_phase.UdpPhase.TheVariants as phases
use Rattle.verilog_primitives.specs.declared.udp_phase.UdpAction.TheVariants as actions
use Rattle.verilog_primitives.specs.declared.udp_phase.UdpMove.{UdpMove}
use Rattle.verilog_primitives.specs.declared.udp_phase.UdpMove.TheVariants.{Stop, Go}
use Rattle.verilog_primitives.specs.declared.udp_reader.UdpReader.{UdpReader}
use Rattle.verilog_looks.specs.Looks.{look_of, are_symbols}
use Rattle.verilog_primitives.specs.UdpActions.{UdpOutcome, no_udp, perform_udp}

abbrev pub keep : UdpPhase → UdpMove
keep p = Go actions.Keep p

-- ---- the header

abbrev pub at_header : Look → UdpMove
at_header looks.Open = keep phases.Port
at_header _ = Stop

abbrev pub at_port_name : Look → UdpMove
at_port_name looks.Name = Go actions.AddPort phases.PortEnd
at_port_name _ = Stop

abbrev pub at_output_port : Look → UdpMove
at_output_port looks.Reg = Go actions.BeginOutputReg phases.PortName
at_output_port l = at_port_name l

abbrev pub at_port : Look → UdpMove
at_port looks.Output = Go actions.BeginOutput phases.OutputPort
at_port looks.Input = Go actions.BeginInput phases.PortName
at_port l = at_port_name l

abbrev pub at_port_end : Look → UdpMove
at_port_end looks.Comma = keep phases.Port
at_port_end looks.Close = keep phases.HeaderEnd
at_port_end _ = Stop

abbrev pub at_header_end : Look → UdpMove
at_header_end looks.Semicolon = keep phases.Declarations
at_header_end _ = Stop

-- ---- declarations

abbrev pub at_table_word : Look → UdpMove
at_table_word looks.Table = keep phases.Rows
at_table_word _ = Stop

abbrev pub at_declarations : Look → UdpMove
at_declarations looks.Output = Go actions.BeginDeclaration phases.Name
at_declarations looks.Reg = Go actions.BeginDeclaration phases.Name
at_declarations looks.Input = Go actions.BeginDeclaration phases.Name
at_declarations looks.Initial = keep phases.Initial
at_declarations l = at_table_word l

abbrev pub at_name : Look → UdpMove
at_name looks.Name = Go actions.Declare phases.NameEnd
at_name _ = Stop

abbrev pub at_name_end : Look → UdpMove
at_name_end looks.Comma = keep phases.Name
at_name_end looks.Semicolon = keep phases.Declarations
at_name_end _ = Stop

abbrev pub at_initial : Look → UdpMove
at_initial looks.Semicolon = keep phases.TableWord
at_initial looks.Barred = Stop
at_initial looks.End = Stop
at_initial _ = keep phases.Initial

-- ---- the table, by whether the item is symbols

abbrev pub at_row : Bool → Look → UdpMove
at_row true l = Go actions.AddSymbols phases.Row
at_row false looks.Semicolon = Go actions.EndRow phases.Rows
at_row false _ = Stop

abbrev pub at_rows : Bool → Look → UdpMove
at_rows symbols looks.EndTable = keep phases.TableEnd
at_rows symbols l = at_row symbols l

abbrev pub at_table_end : Look → UdpMove
at_table_end looks.EndPrimitive = keep phases.Done
at_table_end _ = Stop

-- ---- all of them

abbrev pub table_move : UdpPhase → Bool → Look → UdpMove
table_move phases.Initial symbols l = at_initial l
table_move phases.TableWord symbols l = at_table_word l
table_move phases.Rows symbols l = at_rows symbols l
table_move phases.Row symbols l = at_row symbols l
table_move phases.TableEnd symbols l = at_table_end l
table_move _ symbols l = Stop

abbrev pub udp_move : UdpPhase → Bool → Look → UdpMove
udp_move phases.Header symbols l = at_header l
udp_move phases.Port symbols l = at_port l
udp_move phases.OutputPort symbols l = at_output_port l
udp_move phases.PortName symbols l = at_port_name l
udp_move phases.PortEnd symbols l = at_port_end l
udp_move phases.HeaderEnd symbols l = at_header_end l
udp_move phases.Declarations symbols l = at_declarations l
udp_move phases.Name symbols l = at_name l
udp_move phases.NameEnd symbols l = at_name_end l
udp_move p symbols l = table_move p symbols l

-- ---- the reader

abbrev pub moved : UdpPhase → UdpOutcome → Result UdpReader Halt
moved p (Ok s) = Ok (record { phase = p; text = s })
moved p (Err e) = Err (halts.Refused e)

abbrev pub led : List ℕ → Limits → Left → UdpReader → UdpMove → Result UdpReader Halt
led source limits t m Stop = Err halts.Syntax
led source limits t m (Go a p) = moved p (perform_udp source limits a t m.text)

-- what an item leads to
unfoldable pub taken : List ℕ → Limits → Left → UdpReader → Result UdpReader Halt
taken source limits t m = led source limits t m (udp_move m.phase (are_symbols source t) (look_of source t))

abbrev pub begun : UdpReader
begun = record { phase = phases.Header; text = no_udp }

abbrev pub is_done : UdpPhase → Bool
is_done phases.Done = true
is_done _ = false
