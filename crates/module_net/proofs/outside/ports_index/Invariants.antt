use Rattle.std.proofs.Common.{◌≡◌, map, take}
use Rattle.module_net.proofs.outside.ports_index.Given as goal

abbrev pub invariant-loop-port : goal.invariant-loop-port
invariant-loop-port l = l.names ≡ map (λ p. p.name) (take l.port-index l.ports)
