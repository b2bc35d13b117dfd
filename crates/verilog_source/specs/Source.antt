-- What a source holds that was read of a text: names, ports with directions, elements that drive nets, and words that
-- can be shown.
use Rattle.std.specs.Prelude.{◌≡◌, ◌≤◌, ℕ, Bool, true, false, ◌&&◌, List, ◌++◌, length, map}
use Rattle.std.specs.List.{list_all}
use Rattle.tern_core.specs.declared.tern.Tern.{Tern}
use Rattle.tern_core.specs.declared.tern.Tern.TheVariants.{Zero, One, Unknown}
use Rattle.text_scan.specs.declared.limits.Limits.{Limits}
use Rattle.text_scan.specs.declared.pins.Direction.{Direction}
use Rattle.text_scan.specs.declared.pins.Direction.TheVariants.{Input, Output, Inout}
use Rattle.file_rules.specs.Names.{is_name_within, is_distinct, is_shown}
use Rattle.verilog_source.specs.declared.Source.{Source}
use Rattle.verilog_source.specs.declared.module.ModulePart.{ModulePart}
use Rattle.verilog_source.specs.declared.module.ModulePart.TheVariants as modules
use Rattle.verilog_source.specs.declared.module.Module.{Module}
use Rattle.verilog_source.specs.declared.module.Port.{Port}
use Rattle.verilog_source.specs.declared.module.Element.{Element}
use Rattle.verilog_source.specs.declared.module.Terminal.{Terminal}
use Rattle.verilog_source.specs.declared.module.Terminal.TheVariants as terminals
use Rattle.verilog_source.specs.declared.primitive.UdpPart.{UdpPart}
use Rattle.verilog_source.specs.declared.primitive.UdpPart.TheVariants as primitives

abbrev pub module_name : ModulePart → List ℕ
module_name (modules.Whole m) = m.name
module_name (modules.Refused name construct line) = name

abbrev pub udp_name : UdpPart → List ℕ
udp_name (primitives.Whole u) = u.name
udp_name (primitives.Refused name construct line) = name

abbrev pub port_name : Port → List ℕ
port_name p = p.name

abbrev pub is_port_direction : Direction → Bool
is_port_direction Input = true
is_port_direction Output = true
is_port_direction Inout = true
is_port_direction _ = false

abbrev pub is_port : Limits → Port → Bool
is_port limits p = is_name_within limits p.name && is_port_direction p.direction

abbrev pub is_constant : Tern → Bool
is_constant Zero = true
is_constant One = true
is_constant Unknown = false

abbrev pub is_supply : Limits → (List ℕ × Tern) → Bool
is_supply limits s = is_name_within limits s.0 && is_constant s.1

-- a net of a name, or the constant 0 or 1
abbrev pub is_terminal : Limits → Terminal → Bool
is_terminal limits (terminals.Net name) = is_name_within limits name
is_terminal limits (terminals.Constant value) = is_constant value

abbrev pub is_element : Limits → Element → Bool
is_element limits e =
    is_name_within limits e.kind && is_name_within limits e.label && list_all (is_terminal limits) e.terminals

abbrev pub is_module : Limits → Module → Bool
is_module limits m =
    is_name_within limits m.name && list_all (is_port limits) m.ports && is_distinct (map port_name m.ports)
    && list_all (is_supply limits) m.supplies && list_all (is_element limits) m.elements

abbrev pub is_module_part : Limits → ModulePart → Bool
is_module_part limits (modules.Whole m) = is_module limits m
is_module_part limits (modules.Refused name construct line) = is_name_within limits name && is_shown construct

abbrev pub is_udp_part : Limits → UdpPart → Bool
is_udp_part limits (primitives.Whole u) = is_name_within limits u.name
is_udp_part limits (primitives.Refused name construct line) = is_name_within limits name && is_shown construct

-- the names of modules and of primitives, which are of one kind
abbrev pub part_names : Source → List (List ℕ)
part_names source = map module_name source.modules ++ map udp_name source.primitives

-- Each name is a name within the limit, no module or primitive has the name of another, and each is read whole, with no
-- port twice, or refused with a word that can be shown.
pub record IsSource (limits : Limits) (source : Source) : Type 0 where
  pub few_modules : length source.modules ≤ limits.cells
  pub few_primitives : length source.primitives ≤ limits.cells
  pub modules : list_all (is_module_part limits) source.modules ≡ true
  pub primitives : list_all (is_udp_part limits) source.primitives ≡ true
  pub distinct : is_distinct (part_names source) ≡ true
