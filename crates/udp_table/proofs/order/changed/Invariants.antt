use Rattle.std.proofs.Common.{◌≡◌, ◌≤◌, ◌++◌, length, take, drop}
use Rattle.udp_table.specs.Orders.{changed_from, changed_inputs}
use Rattle.udp_table.proofs.order.changed.Given as goal

abbrev pub invariant-loop-input : goal.invariant-loop-input
invariant-loop-input l = record {
  room : length l.changed ≡ 10;
  number : l.count ≤ l.input;
  inputs : take l.count l.changed ++ changed_from l.input (drop l.input l.old) (drop l.input l.new) ≡ changed_inputs l.old l.new;
}
