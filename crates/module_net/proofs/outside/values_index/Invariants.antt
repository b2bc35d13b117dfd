use Rattle.std.proofs.Common.{◌≡◌, map, take}
use Rattle.module_net.proofs.outside.values_index.Given as goal

abbrev pub invariant-loop-value : goal.invariant-loop-value
invariant-loop-value l = l.names ≡ map (λ s. s.0) (take l.value-index l.values)
