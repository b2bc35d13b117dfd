use Rattle.std.proofs.Common.{◌≡◌, ◌≤◌, ◌++◌, drop}
use Rattle.liberty_meaning.specs.Names as spec
use Rattle.liberty_meaning.proofs.names.push_inputs.Given as goal

abbrev pub invariant-loop-pin : goal.invariant-loop-pin
invariant-loop-pin l = record {
  names : l.fn.names ++ spec.inputs_from 0 l.pins ≡ l.names ++ spec.inputs_from l.k (drop l.pin-index l.pins);
  few : l.k ≤ l.pin-index;
}
