-- What the items outside parts leave, and what parts add.
use Rattle.std.specs.Prelude.{ℕ, ◌-◌, nat_le, if◌then◌else◌, min, List, [], ◌∷◌, ◌++◌, length, Result, Ok, Err}
use Rattle.text_scan.specs.declared.limits.Limits.{Limits}
use Rattle.text_scan.specs.declared.limits.LimitKind.TheVariants as limit_kinds
use Rattle.name_index.specs.Places.{is_known}
use Rattle.verilog_directives.specs.declared.left.Left.{Left}
use Rattle.verilog_source.specs.declared.module.Module.{Module}
use Rattle.verilog_source.specs.declared.module.ModulePart.TheVariants as module_parts
use Rattle.verilog_source.specs.declared.primitive.UdpText.{UdpText}
use Rattle.verilog_source.specs.declared.primitive.UdpPart.TheVariants as udp_parts
use Rattle.verilog_looks.specs.declared.halt.Refusal.{Refusal}
use Rattle.verilog_looks.specs.declared.halt.Refusal.TheVariants as refusals
use Rattle.verilog_modules.specs.declared.module_text.ModuleText.{ModuleText}
use Rattle.verilog_primitives.specs.declared.udp_text.PrimitiveText.{PrimitiveText}
use Rattle.verilog_looks.specs.Names.{content}
use Rattle.file_rules.specs.Names.{is_name, is_too_long}
use Rattle.verilog_reader.specs.declared.file_text.Opened.{Opened}
use Rattle.verilog_reader.specs.declared.file_text.Opened.TheVariants as openings
use Rattle.verilog_reader.specs.declared.file_text.FileText.{FileText}
use Rattle.verilog_reader.specs.declared.file_phase.FileAction.{FileAction}
use Rattle.verilog_reader.specs.declared.file_phase.FileAction.TheVariants as actions

abbrev pub FileOutcome : Type 0
FileOutcome = Result FileText Refusal

-- nothing is read
abbrev pub no_file : FileText
no_file = record { names = []; modules = []; primitives = []; opened = openings.Line; name = [] }

-- there may be one more
abbrev pub count : Limits → ℕ → FileText → FileOutcome
count limits n f = if nat_le limits.cells n then Err (refusals.TooMany limit_kinds.Cells) else Ok f

abbrev pub opened_as : Opened → List ℕ → FileText → FileText
opened_as opened name f = record f { names = f.names ++ name ∷ []; opened = opened; name = name }

-- a part's name: its length comes first, then whether it is one, and whether it is new
unfoldable pub name_part : Limits → Left → List ℕ → Opened → FileText → FileOutcome
name_part limits t name opened f =
    if is_too_long limits name then Err (refusals.TooMany limit_kinds.Name) else
    if is_name name then (if is_known name f.names then Err (refusals.DoubleName t.token) else Ok (opened_as opened name f))
    else Err (refusals.BadName t.token)

abbrev pub begins : Opened → FileText → FileOutcome
begins opened f = Ok (record f { opened = opened })

-- what an item outside parts adds
unfoldable pub perform_file : List ℕ → Limits → FileAction → Left → FileText → FileOutcome
perform_file source limits actions.Keep t f = Ok f
perform_file source limits actions.BeginLine t f = begins openings.Line f
perform_file source limits actions.CountModule t f = count limits (length f.modules) f
perform_file source limits actions.CountPrimitive t f = count limits (length f.primitives) f
perform_file source limits actions.NameModule t f = name_part limits t (content source t.token) openings.Module f
perform_file source limits actions.NamePrimitive t f = name_part limits t (content source t.token) openings.Primitive f
perform_file source limits actions.End t f = begins openings.End f

-- ---- what parts add

abbrev pub module_of : List ℕ → ModuleText → Module
module_of name m = record { name = name; ports = m.ports; supplies = m.supplies; elements = m.elements }

-- the inputs are the ports but the output
abbrev pub udp_of : List ℕ → PrimitiveText → UdpText
udp_of name u = record { name = name; sequential = u.sequential; inputs = min (length u.ports - 1) 4294967295; rows = u.rows }

abbrev pub unnamed : FileText → FileText
unnamed f = record f { name = [] }

unfoldable pub whole_module : FileText → ModuleText → FileText
whole_module f m = record f { modules = f.modules ++ module_parts.Whole (module_of f.name m) ∷ []; name = [] }

unfoldable pub refused_module : FileText → List ℕ → ℕ → FileText
refused_module f word line = record f { modules = f.modules ++ module_parts.Refused f.name word line ∷ []; name = [] }

unfoldable pub whole_udp : FileText → PrimitiveText → FileText
whole_udp f u = record f { primitives = f.primitives ++ udp_parts.Whole (udp_of f.name u) ∷ []; name = [] }

unfoldable pub refused_udp : FileText → List ℕ → ℕ → FileText
refused_udp f word line = record f { primitives = f.primitives ++ udp_parts.Refused f.name word line ∷ []; name = [] }
