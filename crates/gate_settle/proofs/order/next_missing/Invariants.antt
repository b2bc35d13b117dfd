use Rattle.std.proofs.Common.{◌≡◌, true, take}
use Rattle.gate_settle.specs.Order.{all_known}
use Rattle.gate_settle.proofs.order.next_missing.Given as goal

abbrev pub invariant-loop-input : goal.invariant-loop-input
invariant-loop-input l = all_known l.known (take l.input l.inputs) ≡ true
