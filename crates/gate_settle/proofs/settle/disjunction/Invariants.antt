use Rattle.std.proofs.Common.{◌≡◌, drop, map}
use Rattle.tern_core.specs.Values.{or_of}
use Rattle.gate_settle.specs.Gates.{operand_value, disjunction}
use Rattle.gate_settle.proofs.settle.disjunction.Given as goal

abbrev pub invariant-loop-input : goal.invariant-loop-input
invariant-loop-input l = or_of l.value (disjunction (map (operand_value l.nets) (drop l.input-index l.inputs))) ≡ disjunction (map (operand_value l.nets) l.inputs)
