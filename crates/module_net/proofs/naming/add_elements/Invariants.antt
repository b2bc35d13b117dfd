use Rattle.std.proofs.Common.{◌≡◌, ◌++◌, drop}
use Rattle.std.specs.List.{flat_map}
use Rattle.module_net.specs.Naming as spec
use Rattle.module_net.proofs.naming.add_elements.Given as goal

abbrev pub invariant-loop-element : goal.invariant-loop-element
invariant-loop-element l = l.names ++ spec.firsts l.names (flat_map spec.element_names (drop l.element-index l.elements)) ≡ l.fn.names ++ spec.firsts l.fn.names (flat_map spec.element_names l.fn.elements)
