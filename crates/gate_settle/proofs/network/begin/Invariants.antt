use Rattle.std.proofs.Common.{◌≡◌, map, take}
use Rattle.gate_settle.specs.Network.{given_value}
use Rattle.gate_settle.proofs.network.begin.Given as goal

abbrev pub invariant-loop-place : goal.invariant-loop-place
invariant-loop-place l = take l.place l.nets ≡ map (given_value l.pins) (take l.place l.given)
