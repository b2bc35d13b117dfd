use Rattle.std.proofs.Common.{◌≡◌, ◌++◌, drop}
use Rattle.std.specs.List.{flat_map}
use Rattle.module_net.specs.Naming.{firsts}
use Rattle.module_net.specs.Elements.{primitive_name, used_in}
use Rattle.module_net.proofs.elements.used_in.Given as goal

abbrev pub invariant-loop-element : goal.invariant-loop-element
invariant-loop-element l = l.used ++ firsts l.used (flat_map primitive_name (drop l.element-index l.elements)) ≡ used_in l.elements
