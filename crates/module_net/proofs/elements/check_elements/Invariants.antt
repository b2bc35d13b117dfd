use Rattle.std.proofs.Common.{◌≡◌, drop}
use Rattle.module_net.specs.Elements.{first_refused}
use Rattle.module_net.proofs.elements.check_elements.Given as goal

abbrev pub invariant-loop-element : goal.invariant-loop-element
invariant-loop-element l = first_refused l.primitives (drop l.element-index l.elements) ≡ first_refused l.primitives l.elements
