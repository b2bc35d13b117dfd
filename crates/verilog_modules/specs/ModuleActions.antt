-- What the items of a module leave.
use Rattle.std.specs.Prelude.{Bool, true, false, ℕ, if◌then◌else◌, List, [], ◌∷◌, ◌++◌, Option, Some, None, Result, Ok, Err}
use Rattle.text_scan.specs.declared.pins.Direction.{Direction}
use Rattle.text_scan.specs.declared.pins.Direction.TheVariants as directions
use Rattle.text_scan.specs.declared.limits.Limits.{Limits}
use Rattle.tern_core.specs.declared.tern.Tern.{Tern}
use Rattle.tern_core.specs.declared.tern.Tern.TheVariants as terns
use Rattle.name_index.specs.Places.{is_known}
use Rattle.verilog_directives.specs.declared.left.Left.{Left}
use Rattle.verilog_source.specs.declared.module.Port.{Port}
use Rattle.verilog_source.specs.declared.module.Terminal.TheVariants as terminals
use Rattle.verilog_looks.specs.declared.halt.Refusal.{Refusal}
use Rattle.verilog_looks.specs.declared.halt.Refusal.TheVariants as refusals
use Rattle.verilog_looks.specs.declared.look.Look.{Look}
use Rattle.verilog_looks.specs.declared.look.Look.TheVariants as looks
use Rattle.verilog_modules.specs.declared.module_text.Declared.{Declared}
use Rattle.verilog_modules.specs.declared.module_text.Declared.TheVariants as declares
use Rattle.verilog_modules.specs.declared.module_text.ModuleText.{ModuleText}
use Rattle.verilog_modules.specs.declared.module_phase.ModuleAction.{ModuleAction}
use Rattle.verilog_modules.specs.declared.module_phase.ModuleAction.TheVariants as actions
use Rattle.verilog_looks.specs.Looks.{text, look_of}
use Rattle.verilog_looks.specs.Names.{content, named}
use Rattle.verilog_modules.specs.Ports.{names_of, directed, undirected}

abbrev pub ModuleOutcome : Type 0
ModuleOutcome = Result ModuleText Refusal

-- nothing is read
abbrev pub no_module : ModuleText
no_module = record {
  ports = [];
  supplies = [];
  elements = [];
  direction = directions.Absent;
  declared = declares.Net;
  kind = [];
  is_gate = false;
  label = [];
  terminals = [];
}

abbrev pub direction_of : Look → Direction
direction_of looks.Input = directions.Input
direction_of looks.Output = directions.Output
direction_of looks.Inout = directions.Inout
direction_of _ = directions.Absent

abbrev pub declared_of : Look → Declared
declared_of looks.Input = declares.Port directions.Input
declared_of looks.Output = declares.Port directions.Output
declared_of looks.Inout = declares.Port directions.Inout
declared_of looks.Supply0 = declares.Supply terns.Zero
declared_of looks.Supply1 = declares.Supply terns.One
declared_of _ = declares.Net

abbrev pub constant_of : Look → Tern
constant_of looks.Zero = terns.Zero
constant_of _ = terns.One

-- a port of the list has the direction before it
unfoldable pub add_port : Left → List ℕ → ModuleText → ModuleOutcome
add_port t name s = if is_known name (names_of s.ports) then Err (refusals.DoubleName t.token) else Ok (record s { ports = s.ports ++ record { name = name; direction = s.direction } ∷ [] })

abbrev pub or_here : ModuleText → Option (List Port) → ModuleOutcome
or_here s None = Err refusals.Here
or_here s (Some ports) = Ok (record s { ports = ports })

-- a direction is for a listed port that has none
abbrev pub declare_port : Direction → List ℕ → ModuleText → ModuleOutcome
declare_port d name s = or_here s (directed s.ports name d)

abbrev pub declare_supply : Tern → List ℕ → ModuleText → ModuleOutcome
declare_supply v name s = Ok (record s { supplies = s.supplies ++ record { 0 = name; 1 = v } ∷ [] })

unfoldable pub declare : Declared → List ℕ → ModuleText → ModuleOutcome
declare (declares.Port d) name s = declare_port d name s
declare declares.Net name s = Ok s
declare (declares.Supply v) name s = declare_supply v name s

-- a gate's word, or the name of a primitive, which may be an escaped identifier of the same letters
abbrev pub set_kind : Bool → List ℕ → ModuleText → ModuleOutcome
set_kind is_gate kind s = Ok (record s { kind = kind; is_gate = is_gate })

abbrev pub set_label : List ℕ → ModuleText → ModuleOutcome
set_label name s = Ok (record s { label = name })

abbrev pub add_terminal : List ℕ → ModuleText → ModuleOutcome
add_terminal name s = Ok (record s { terminals = s.terminals ++ terminals.Net name ∷ [] })

-- the instance's label is its first terminal
abbrev pub add_output : List ℕ → ModuleText → ModuleOutcome
add_output name s = Ok (record s { label = name; terminals = s.terminals ++ terminals.Net name ∷ [] })

abbrev pub add_constant : Look → ModuleText → ModuleOutcome
add_constant l s = Ok (record s { terminals = s.terminals ++ terminals.Constant (constant_of l) ∷ [] })

abbrev pub end_instance : ModuleText → ModuleOutcome
end_instance s = Ok (record s { elements = s.elements ++ record { kind = s.kind; is_gate = s.is_gate; label = s.label; terminals = s.terminals } ∷ []; label = []; terminals = [] })

abbrev pub unless_undirected : ModuleText → Option (List ℕ) → ModuleOutcome
unless_undirected s None = Ok s
unless_undirected s (Some name) = Err (refusals.NoDirection name)

-- each listed port has a direction
abbrev pub end_module : ModuleText → ModuleOutcome
end_module s = unless_undirected s (undirected s.ports)

-- what the name of an item adds
unfoldable pub add_name : ModuleAction → Left → List ℕ → ModuleText → ModuleOutcome
add_name actions.AddPort t name s = add_port t name s
add_name actions.Declare t name s = declare s.declared name s
add_name actions.BeginPrimitive t name s = set_kind false name s
add_name actions.Label t name s = set_label name s
add_name actions.AddOutput t name s = add_output name s
add_name actions.AddNet t name s = add_terminal name s
add_name _ t name s = Ok s

abbrev pub perform_name : List ℕ → Limits → ModuleAction → Left → ModuleText → ModuleOutcome
perform_name source limits a t s = named limits (content source t.token) (add_name a t (content source t.token) s)

-- what an item adds
unfoldable pub perform : List ℕ → Limits → ModuleAction → Left → ModuleText → ModuleOutcome
perform source limits actions.Keep t s = Ok s
perform source limits actions.Direct t s = Ok (record s { direction = direction_of (look_of source t) })
perform source limits actions.BeginDeclaration t s = Ok (record s { declared = declared_of (look_of source t) })
perform source limits actions.BeginGate t s = set_kind true (text source t.token) s
perform source limits actions.AddConstant t s = add_constant (look_of source t) s
perform source limits actions.EndInstance t s = end_instance s
perform source limits actions.EndModule t s = end_module s
perform source limits a t s = perform_name source limits a t s
