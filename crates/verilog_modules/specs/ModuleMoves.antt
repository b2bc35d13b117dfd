-- What an item does, where a reader of a module stands.
use Rattle.std.specs.Prelude.{ℕ, ◌+◌, ◌-◌, Bool, true, false, ◌==◌, nat_le, if◌then◌else◌, List, Result, Ok, Err}
use Rattle.text_scan.specs.declared.limits.Limits.{Limits}
use Rattle.verilog_directives.specs.declared.left.Left.{Left}
use Rattle.verilog_looks.specs.declared.halt.Halt.{Halt}
use Rattle.verilog_looks.specs.declared.halt.Halt.TheVariants as halts
use Rattle.verilog_looks.specs.declared.look.Look.{Look}
use Rattle.verilog_looks.specs.declared.look.Look.TheVariants as looks
use Rattle.verilog_modules.specs.declared.module_phase.ModulePhase.{ModulePhase}
use Rattle.verilog_modules.specs.declared.module_phase.ModulePhase.TheVariants as phases
use Rattle.verilog_modules.specs.declared.module_phase.ModuleAction.{ModuleAction}
use Rattle.verilog_modules.specs.declared.module_phase.ModuleAction.TheVariants as actions
use Rattle.verilog_modules.specs.declared.module_phase.ModuleMove.{ModuleMove}
use Rattle.verilog_modules.specs.declared.module_phase.ModuleMove.TheVariants.{Stop, Go}
use Rattle.verilog_modules.specs.declared.module_reader.ModuleReader.{ModuleReader}
use Rattle.verilog_looks.specs.Looks.{look_of}
use Rattle.verilog_modules.specs.ModuleActions.{ModuleOutcome, no_module, perform}

abbrev pub keep : ModulePhase → ModuleMove
keep p = Go actions.Keep p

-- ---- the header

abbrev pub at_header : Look → ModuleMove
at_header looks.Open = keep phases.Ports
at_header looks.Semicolon = keep phases.Items
at_header _ = Stop

abbrev pub at_port : Look → ModuleMove
at_port looks.Input = Go actions.Direct phases.PortNet
at_port looks.Output = Go actions.Direct phases.PortNet
at_port looks.Inout = Go actions.Direct phases.PortNet
at_port looks.Name = Go actions.AddPort phases.PortEnd
at_port _ = Stop

abbrev pub at_ports : Look → ModuleMove
at_ports looks.Close = keep phases.HeaderEnd
at_ports l = at_port l

abbrev pub at_port_name : Look → ModuleMove
at_port_name looks.Name = Go actions.AddPort phases.PortEnd
at_port_name _ = Stop

abbrev pub at_port_net : Look → ModuleMove
at_port_net looks.Wire = keep phases.PortName
at_port_net looks.Reg = keep phases.PortName
at_port_net l = at_port_name l

abbrev pub at_port_end : Look → ModuleMove
at_port_end looks.Comma = keep phases.Port
at_port_end looks.Close = keep phases.HeaderEnd
at_port_end _ = Stop

abbrev pub at_header_end : Look → ModuleMove
at_header_end looks.Semicolon = keep phases.Items
at_header_end _ = Stop

-- ---- items

abbrev pub at_items : Look → ModuleMove
at_items looks.Input = Go actions.BeginDeclaration phases.Name
at_items looks.Output = Go actions.BeginDeclaration phases.Name
at_items looks.Inout = Go actions.BeginDeclaration phases.Name
at_items looks.Wire = Go actions.BeginDeclaration phases.Name
at_items looks.Reg = Go actions.BeginDeclaration phases.Name
at_items looks.Supply0 = Go actions.BeginDeclaration phases.Name
at_items looks.Supply1 = Go actions.BeginDeclaration phases.Name
at_items looks.Name = Go actions.BeginPrimitive (phases.Kind false)
at_items looks.Gate = Go actions.BeginGate (phases.Kind false)
at_items looks.Buffer = Go actions.BeginGate (phases.Kind true)
at_items looks.Specify = keep phases.Specify
at_items looks.EndModule = Go actions.EndModule phases.Done
at_items _ = Stop

abbrev pub at_name : Look → ModuleMove
at_name looks.Name = Go actions.Declare phases.NameEnd
at_name _ = Stop

abbrev pub at_name_end : Look → ModuleMove
at_name_end looks.Comma = keep phases.Name
at_name_end looks.Semicolon = keep phases.Items
at_name_end _ = Stop

-- ---- instances

abbrev pub at_instance : Bool → Look → ModuleMove
at_instance o looks.Name = Go actions.Label (phases.Labelled o)
at_instance o looks.Open = keep (phases.Output o false)
at_instance o _ = Stop

abbrev pub at_kind : Bool → Look → ModuleMove
at_kind o looks.Hash = keep (phases.Hash o)
at_kind o l = at_instance o l

abbrev pub at_hash : Bool → Look → ModuleMove
at_hash o looks.Number = keep (phases.Instance o)
at_hash o looks.Zero = keep (phases.Instance o)
at_hash o looks.One = keep (phases.Instance o)
at_hash o looks.Name = Go actions.CheckName (phases.Instance o)
at_hash o looks.Open = keep (phases.Delay o 1)
at_hash o _ = Stop

-- a parenthesis closes
unfoldable pub closed : Bool → ℕ → ModulePhase
closed o depth = if nat_le depth 1 then phases.Instance o else phases.Delay o (depth - 1)

abbrev pub at_delay : Bool → ℕ → Look → ModuleMove
at_delay o depth looks.Open = keep (phases.Delay o (depth + 1))
at_delay o depth looks.Close = keep (closed o depth)
at_delay o depth looks.Barred = Stop
at_delay o depth looks.End = Stop
at_delay o depth _ = keep (phases.Delay o depth)

abbrev pub at_labelled : Bool → Look → ModuleMove
at_labelled o looks.Open = keep (phases.Output o true)
at_labelled o _ = Stop

-- the output of an instance without a name is its label
abbrev pub naming : Bool → ModuleAction
naming true = actions.AddNet
naming false = actions.AddOutput

abbrev pub at_output : Bool → Bool → Look → ModuleMove
at_output o labelled looks.Name = Go (naming labelled) (phases.TerminalEnd o)
at_output o labelled _ = Stop

abbrev pub after_constant : Bool → ModulePhase
after_constant true = phases.Last true
after_constant false = phases.TerminalEnd false

abbrev pub at_terminal : Bool → Look → ModuleMove
at_terminal o looks.Name = Go actions.AddNet (phases.TerminalEnd o)
at_terminal o looks.Zero = Go actions.AddConstant (after_constant o)
at_terminal o looks.One = Go actions.AddConstant (after_constant o)
at_terminal o _ = Stop

abbrev pub at_last : Bool → Look → ModuleMove
at_last o looks.Close = Go actions.EndInstance (phases.InstanceEnd o)
at_last o _ = Stop

abbrev pub at_terminal_end : Bool → Look → ModuleMove
at_terminal_end o looks.Comma = keep (phases.Terminal o)
at_terminal_end o l = at_last o l

abbrev pub at_instance_end : Bool → Look → ModuleMove
at_instance_end o looks.Comma = keep (phases.Instance o)
at_instance_end o looks.Semicolon = keep phases.Items
at_instance_end o _ = Stop

-- ---- specify blocks

abbrev pub at_specify : ℕ → Look → ModuleMove
at_specify line looks.EndSpecify = keep phases.Items
at_specify line looks.Macro = keep (phases.SpecifyLine line)
at_specify line looks.Barred = Stop
at_specify line looks.End = Stop
at_specify line _ = keep phases.Specify

-- an item on a macro's line
abbrev pub beside : ℕ → Look → ModuleMove
beside line looks.Barred = Stop
beside line looks.End = Stop
beside line _ = keep (phases.SpecifyLine line)

abbrev pub at_specify_line : Bool → ℕ → ℕ → Look → ModuleMove
at_specify_line true macro line l = beside macro l
at_specify_line false macro line l = at_specify line l

-- ---- all of them

abbrev pub instance_move : ModulePhase → Look → ModuleMove
instance_move (phases.Kind o) l = at_kind o l
instance_move (phases.Hash o) l = at_hash o l
instance_move (phases.Delay o depth) l = at_delay o depth l
instance_move (phases.Instance o) l = at_instance o l
instance_move (phases.Labelled o) l = at_labelled o l
instance_move (phases.Output o labelled) l = at_output o labelled l
instance_move (phases.Terminal o) l = at_terminal o l
instance_move (phases.TerminalEnd o) l = at_terminal_end o l
instance_move (phases.Last o) l = at_last o l
instance_move (phases.InstanceEnd o) l = at_instance_end o l
instance_move _ l = Stop

-- an item on this line that looks so
abbrev pub module_move : ModulePhase → ℕ → Look → ModuleMove
module_move phases.Header line l = at_header l
module_move phases.Ports line l = at_ports l
module_move phases.Port line l = at_port l
module_move phases.PortNet line l = at_port_net l
module_move phases.PortName line l = at_port_name l
module_move phases.PortEnd line l = at_port_end l
module_move phases.HeaderEnd line l = at_header_end l
module_move phases.Items line l = at_items l
module_move phases.Name line l = at_name l
module_move phases.NameEnd line l = at_name_end l
module_move phases.Specify line l = at_specify line l
module_move (phases.SpecifyLine macro) line l = at_specify_line (line == macro) macro line l
module_move p line l = instance_move p l

-- ---- the reader

abbrev pub moved : ModulePhase → ModuleOutcome → Result ModuleReader Halt
moved p (Ok s) = Ok (record { phase = p; text = s })
moved p (Err e) = Err (halts.Refused e)

abbrev pub led : List ℕ → Limits → Left → ModuleReader → ModuleMove → Result ModuleReader Halt
led source limits t m Stop = Err halts.Syntax
led source limits t m (Go a p) = moved p (perform source limits a t m.text)

-- what an item leads to
unfoldable pub taken : List ℕ → Limits → Left → ModuleReader → Result ModuleReader Halt
taken source limits t m = led source limits t m (module_move m.phase t.token.span.line (look_of source t))

abbrev pub begun : ModuleReader
begun = record { phase = phases.Header; text = no_module }

abbrev pub is_done : ModulePhase → Bool
is_done phases.Done = true
is_done _ = false
