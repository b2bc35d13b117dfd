use Rattle.std.proofs.Common.{take, map, ◌++◌}
use Rattle.std.specs.Str.{bytes_eq}
use Rattle.switch_response.specs.Places.{Indexes}
use Rattle.switch_response.proofs.naming.index_of_inputs.Given as goal

abbrev pub invariant-loop-place : goal.invariant-loop-place
invariant-loop-place l = Indexes bytes_eq (take l.place l.inputs) l.index

abbrev pub invariant-supplies : goal.invariant-supplies
invariant-supplies l = Indexes bytes_eq (l.inputs ++ map (λ s. s.name) (take l.place l.supplies)) l.index
