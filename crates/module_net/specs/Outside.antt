-- What a module's nets have from outside its elements.
use Rattle.std.specs.Prelude.{ℕ, if◌then◌else◌, List, map, find, Option, Some, None}
use Rattle.std.specs.Option.{option_map, option_or}
use Rattle.std.specs.Str.{bytes_eq}
use Rattle.tern_core.specs.declared.tern.Tern.{Tern}
use Rattle.verilog_source.specs.declared.module.Module.{Module}
use Rattle.gate_settle.specs.declared.gate.Given.{Given}
use Rattle.gate_settle.specs.declared.gate.Given.TheVariants.{Pin, Fixed, Floating}
use Rattle.name_index.specs.Places.{place_of, is_known}

-- the value beside the first such name
abbrev pub value_of : List (List ℕ × Tern) → List ℕ → Option Tern
value_of supplies name = option_map (λ s. s.1) (find (λ s. bytes_eq name s.0) supplies)

-- a port that is an input pin has its value, another one that is a supply has the supply's
abbrev pub port_given : List (List ℕ) → List (List ℕ × Tern) → List ℕ → Option Given
port_given inputs supplies name = option_or (option_map Pin (place_of inputs name)) (option_map Fixed (value_of supplies name))

abbrev pub or_floating : Option Given → Given
or_floating (Some g) = g
or_floating None = Floating

-- The module's own supply of the name comes before what a port has. Inputs and supplies that are no ports have no effect.
abbrev pub given_of : Module → List (List ℕ) → List (List ℕ × Tern) → List ℕ → Given
given_of m inputs supplies name =
    or_floating (option_or (option_map Fixed (value_of m.supplies name))
    (if is_known name (map (λ p. p.name) m.ports) then port_given inputs supplies name else None))
