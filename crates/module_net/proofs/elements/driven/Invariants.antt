use Rattle.std.proofs.Common.{◌≡◌, ◌++◌, take}
use Rattle.std.specs.List.{flat_map}
use Rattle.module_net.specs.Elements.{driven}
use Rattle.module_net.proofs.elements.driven.Given as goal

abbrev pub invariant-loop-terminal : goal.invariant-loop-terminal
invariant-loop-terminal l = l.outputs ≡ l.fn.outputs ++ flat_map (driven l.nets) (take l.terminal-index l.terminals)
