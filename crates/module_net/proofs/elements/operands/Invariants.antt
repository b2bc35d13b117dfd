use Rattle.std.proofs.Common.{◌≡◌, map, take}
use Rattle.module_net.specs.Elements.{operand}
use Rattle.module_net.proofs.elements.operands.Given as goal

abbrev pub invariant-loop-terminal : goal.invariant-loop-terminal
invariant-loop-terminal l = l.inputs ≡ map (operand l.nets) (take l.terminal-index l.terminals)
