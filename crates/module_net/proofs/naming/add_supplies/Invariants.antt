use Rattle.std.proofs.Common.{◌≡◌, ◌++◌, map, drop}
use Rattle.module_net.specs.Naming as spec
use Rattle.module_net.proofs.naming.add_supplies.Given as goal

abbrev pub invariant-loop-supply : goal.invariant-loop-supply
invariant-loop-supply l = l.names ++ spec.firsts l.names (map (λ s. s.0) (drop l.supply-index l.supplies)) ≡ l.fn.names ++ spec.firsts l.fn.names (map (λ s. s.0) l.fn.supplies)
