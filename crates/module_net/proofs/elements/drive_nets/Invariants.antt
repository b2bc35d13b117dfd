use Rattle.std.proofs.Common.{◌↔◌, drop}
use Rattle.module_net.specs.Elements.{DriveNets}
use Rattle.module_net.proofs.elements.drive_nets.Given as goal

abbrev pub invariant-loop-element : goal.invariant-loop-element
invariant-loop-element l = DriveNets l.elements ↔ DriveNets (drop l.element-index l.elements)
