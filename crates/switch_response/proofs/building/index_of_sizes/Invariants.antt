use Rattle.std.proofs.Common.{take}
use Rattle.switch_response.specs.Places.{Indexes, is_size_of}
use Rattle.switch_response.proofs.building.index_of_sizes.Given as goal

abbrev pub invariant-loop-place : goal.invariant-loop-place
invariant-loop-place l = Indexes (is_size_of l.cell) (take l.place l.sizes) l.index
