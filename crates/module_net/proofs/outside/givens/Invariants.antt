use Rattle.std.proofs.Common.{◌≡◌, map, take}
use Rattle.module_net.specs.Outside.{given_of}
use Rattle.module_net.proofs.outside.givens.Given as goal

abbrev pub invariant-loop-net : goal.invariant-loop-net
invariant-loop-net l = l.given ≡ map (given_of l.«module» l.inputs l.supplies) (take l.net-index l.nets)
