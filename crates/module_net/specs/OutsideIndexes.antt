-- The indexes of what lies outside a module's elements.
use Rattle.std.specs.Prelude.{◌≡◌, ℕ, List, map}
use Rattle.tern_core.specs.declared.tern.Tern.{Tern}
use Rattle.verilog_source.specs.declared.module.Module.{Module}
use Rattle.module_net.specs.declared.outside.Outside.{Outside}

pub record AreIndexes (m : Module) (pins : List (List ℕ)) (values : List (List ℕ × Tern)) (outside : Outside) : Type 0 where
  pub ports : outside.ports ≡ map (λ p. p.name) m.ports
  pub own : outside.own ≡ map (λ s. s.0) m.supplies
  pub inputs : outside.inputs ≡ pins
  pub supplies : outside.supplies ≡ map (λ s. s.0) values
