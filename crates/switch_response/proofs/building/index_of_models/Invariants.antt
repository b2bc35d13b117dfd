use Rattle.std.proofs.Common.{take}
use Rattle.switch_response.specs.Places.{Indexes, is_named}
use Rattle.switch_response.proofs.building.index_of_models.Given as goal

abbrev pub invariant-loop-place : goal.invariant-loop-place
invariant-loop-place l = Indexes is_named (take l.place l.models) l.index
