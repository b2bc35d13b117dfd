use Rattle.std.proofs.Common.{take}
use Rattle.name_index.specs.Held.{IsIndexOf}
use Rattle.name_index.proofs.first_places.FirstPlaces.of.Given as goal

abbrev pub invariant-loop-place : goal.invariant-loop-place
invariant-loop-place l = IsIndexOf (take l.place l.names) l.index
