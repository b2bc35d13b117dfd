-- What the items of a primitive leave.
use Rattle.std.specs.Prelude.{ℕ, true, false, ◌==◌, if◌then◌else◌, List, [], ◌∷◌, ◌++◌, Option, Some, None, Result, Ok, Err}
use Rattle.text_scan.specs.declared.limits.Limits.{Limits}
use Rattle.name_index.specs.Places.{is_known, place_of}
use Rattle.verilog_directives.specs.declared.left.Left.{Left}
use Rattle.verilog_looks.specs.declared.halt.Refusal.{Refusal}
use Rattle.verilog_looks.specs.declared.halt.Refusal.TheVariants as refusals
use Rattle.verilog_looks.specs.declared.look.Look.{Look}
use Rattle.verilog_looks.specs.declared.look.Look.TheVariants as looks
use Rattle.verilog_primitives.specs.declared.udp_text.UdpDeclared.{UdpDeclared}
use Rattle.verilog_primitives.specs.declared.udp_text.UdpDeclared.TheVariants as declares
use Rattle.verilog_primitives.specs.declared.udp_text.PrimitiveText.{PrimitiveText}
use Rattle.verilog_primitives.specs.declared.udp_phase.UdpAction.{UdpAction}
use Rattle.verilog_primitives.specs.declared.udp_phase.UdpAction.TheVariants as actions
use Rattle.verilog_looks.specs.Looks.{text, look_of}
use Rattle.verilog_looks.specs.Names.{content}
use Rattle.verilog_looks.specs.Names.{named}

abbrev pub UdpOutcome : Type 0
UdpOutcome = Result PrimitiveText Refusal

-- nothing is read
abbrev pub no_udp : PrimitiveText
no_udp = record { ports = []; has_output = false; sequential = false; inputs = []; declared = declares.Plain; rows = []; row = [] }

abbrev pub udp_declared_of : Look → UdpDeclared
udp_declared_of looks.Output = declares.Output
udp_declared_of looks.Reg = declares.Reg
udp_declared_of looks.Input = declares.Input
udp_declared_of _ = declares.Plain

abbrev pub declare_output : PrimitiveText → UdpOutcome
declare_output s = if s.has_output then Err refusals.Here else Ok (record s { has_output = true })

abbrev pub declare_reg : PrimitiveText → UdpOutcome
declare_reg s = if s.sequential then Err refusals.Here else Ok (record s { sequential = true })

abbrev pub declare_output_reg : PrimitiveText → UdpOutcome
declare_output_reg s = if s.has_output then Err refusals.Here else if s.sequential then Err refusals.Here else Ok (record s { has_output = true; sequential = true })

-- the output is named once, and so is its state
unfoldable pub declare_first : UdpDeclared → PrimitiveText → UdpOutcome
declare_first declares.Plain s = Ok s
declare_first declares.Output s = declare_output s
declare_first declares.OutputReg s = declare_output_reg s
declare_first declares.Reg s = declare_reg s
declare_first declares.Input s = Err refusals.Here

abbrev pub declare_input : List ℕ → PrimitiveText → UdpOutcome
declare_input name s = if is_known name s.inputs then Err refusals.Here else Ok (record s { inputs = s.inputs ++ name ∷ [] })

-- another port is named once, as an input
unfoldable pub declare_other : UdpDeclared → List ℕ → PrimitiveText → UdpOutcome
declare_other declares.Plain name s = Ok s
declare_other declares.Input name s = declare_input name s
declare_other declares.Output name s = Err refusals.Here
declare_other declares.OutputReg name s = Err refusals.Here
declare_other declares.Reg name s = Err refusals.Here

abbrev pub declare_at : Option ℕ → UdpDeclared → List ℕ → PrimitiveText → UdpOutcome
declare_at None d name s = Err refusals.Here
declare_at (Some place) d name s = if place == 0 then declare_first d s else declare_other d name s

-- what is said of a name: the first port is the output, the others are inputs
unfoldable pub declare_udp : UdpDeclared → List ℕ → PrimitiveText → UdpOutcome
declare_udp d name s = declare_at (place_of s.ports name) d name s

abbrev pub listed : List ℕ → PrimitiveText → PrimitiveText
listed name s = record s { ports = s.ports ++ name ∷ [] }

abbrev pub add_udp_port : List ℕ → PrimitiveText → UdpOutcome
add_udp_port name s = declare_udp s.declared name (listed name s)

abbrev pub end_row : PrimitiveText → UdpOutcome
end_row s = Ok (record s { rows = s.rows ++ s.row ∷ []; row = [] })

abbrev pub add_symbols : List ℕ → PrimitiveText → UdpOutcome
add_symbols symbols s = Ok (record s { row = s.row ++ symbols })

-- what the name of an item adds
unfoldable pub add_udp_name : UdpAction → List ℕ → PrimitiveText → UdpOutcome
add_udp_name actions.AddPort name s = add_udp_port name s
add_udp_name actions.Declare name s = declare_udp s.declared name s
add_udp_name _ name s = Ok s

abbrev pub perform_udp_name : List ℕ → Limits → UdpAction → Left → PrimitiveText → UdpOutcome
perform_udp_name source limits a t s = named limits (content source t.token) (add_udp_name a (content source t.token) s)

abbrev pub begin : UdpDeclared → PrimitiveText → UdpOutcome
begin d s = Ok (record s { declared = d })

-- what an item adds
unfoldable pub perform_udp : List ℕ → Limits → UdpAction → Left → PrimitiveText → UdpOutcome
perform_udp source limits actions.Keep t s = Ok s
perform_udp source limits actions.BeginOutput t s = begin declares.Output s
perform_udp source limits actions.BeginOutputReg t s = begin declares.OutputReg s
perform_udp source limits actions.BeginInput t s = begin declares.Input s
perform_udp source limits actions.BeginDeclaration t s = begin (udp_declared_of (look_of source t)) s
perform_udp source limits actions.AddSymbols t s = add_symbols (text source t.token) s
perform_udp source limits actions.EndRow t s = end_row s
perform_udp source limits a t s = perform_udp_name source limits a t s
