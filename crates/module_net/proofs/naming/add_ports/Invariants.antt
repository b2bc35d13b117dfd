use Rattle.std.proofs.Common.{◌≡◌, ◌++◌, map, drop}
use Rattle.module_net.specs.Naming as spec
use Rattle.module_net.proofs.naming.add_ports.Given as goal

abbrev pub invariant-loop-port : goal.invariant-loop-port
invariant-loop-port l = l.names ++ spec.firsts l.names (map (λ p. p.name) (drop l.port-index l.ports)) ≡ l.fn.names ++ spec.firsts l.fn.names (map (λ p. p.name) l.fn.ports)
