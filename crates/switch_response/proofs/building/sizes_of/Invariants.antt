use Rattle.std.proofs.Common.{◌≡◌, map, take}
use Rattle.switch_response.specs.Wiring.{size_of}
use Rattle.switch_response.proofs.building.sizes_of.Given as goal

abbrev pub invariant-loop-name : goal.invariant-loop-name
invariant-loop-name l = l.strengths.items ≡ map (size_of l.sizes l.cell) (take l.name-index l.names)
