-- What stands at the outputs of a module's instances (IEEE 1364-2005, 7.2, 7.3 and 8.6).
use Rattle.std.specs.Prelude.{◌≡◌, ℕ, Bool, true, false, ◌-◌, ◌&&◌, ◌||◌, if◌then◌else◌, List, [], ◌∷◌, length, take, codes}
use Rattle.std.specs.List.{list_all}
use Rattle.std.specs.Str.{bytes_eq}
use Rattle.verilog_source.specs.declared.module.Element.{Element}
use Rattle.verilog_source.specs.declared.module.Terminal.{Terminal}
use Rattle.verilog_source.specs.declared.module.Terminal.TheVariants as terminals

abbrev pub is_net : Terminal → Bool
is_net (terminals.Net n) = true
is_net (terminals.Constant v) = false

-- all terminals but the last are outputs
abbrev pub is_buffer_word : Bool → List ℕ → Bool
is_buffer_word is_gate kind = is_gate && (bytes_eq kind (codes "buf") || bytes_eq kind (codes "not"))

-- how many terminals are outputs, which come first
abbrev pub outputs : Element → ℕ
outputs e = if is_buffer_word e.is_gate e.kind then length e.terminals - 1 else 1

-- each output is a net
abbrev pub drives_nets : Element → Bool
drives_nets e = list_all is_net (take (outputs e) e.terminals)

abbrev pub DriveNets : List Element → Type 0
DriveNets [] = Unit {0}
DriveNets (e ∷ elements) = (drives_nets e ≡ true) × DriveNets elements
