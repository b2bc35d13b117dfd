use Rattle.std.proofs.Common.{◌≡◌, take}
use Rattle.module_net.specs.Elements.{state_nets_of}
use Rattle.module_net.proofs.gates.state_nets_of.Given as goal

abbrev pub invariant-loop-element : goal.invariant-loop-element
invariant-loop-element l = l.state_nets ≡ state_nets_of l.primitives l.nets (take l.element-index l.elements)
