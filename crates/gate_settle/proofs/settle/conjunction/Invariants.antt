use Rattle.std.proofs.Common.{◌≡◌, drop, map}
use Rattle.tern_core.specs.Values.{and_of}
use Rattle.gate_settle.specs.Gates.{operand_value, conjunction}
use Rattle.gate_settle.proofs.settle.conjunction.Given as goal

abbrev pub invariant-loop-input : goal.invariant-loop-input
invariant-loop-input l = and_of l.value (conjunction (map (operand_value l.nets) (drop l.input-index l.inputs))) ≡ conjunction (map (operand_value l.nets) l.inputs)
