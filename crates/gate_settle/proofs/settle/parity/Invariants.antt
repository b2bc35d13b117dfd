use Rattle.std.proofs.Common.{◌≡◌, drop, map}
use Rattle.tern_core.specs.Values.{xor_of}
use Rattle.gate_settle.specs.Gates.{operand_value, parity}
use Rattle.gate_settle.proofs.settle.parity.Given as goal

abbrev pub invariant-loop-input : goal.invariant-loop-input
invariant-loop-input l = xor_of l.value (parity (map (operand_value l.nets) (drop l.input-index l.inputs))) ≡ parity (map (operand_value l.nets) l.inputs)
