use Rattle.std.proofs.Common.{◌≡◌, length, map, take}
use Rattle.gate_settle.specs.Gates.{operand_value}
use Rattle.gate_settle.proofs.settle.levels.Given as goal

abbrev pub invariant-loop-place : goal.invariant-loop-place
invariant-loop-place l = record {
  room : length l.levels ≡ 10;
  values : take l.place l.levels ≡ map (operand_value l.nets) (take l.place l.inputs);
}
