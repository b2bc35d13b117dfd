use Rattle.std.proofs.Common.{◌≡◌, take}
use Rattle.module_net.specs.Elements.{tables_of}
use Rattle.module_net.proofs.elements.tables_of.Given as goal

abbrev pub invariant-loop-name : goal.invariant-loop-name
invariant-loop-name l = l.tables ≡ tables_of l.primitives (take l.name-index l.used)
