use Rattle.std.proofs.Common.{◌≡◌, drop}
use Rattle.gate_settle.specs.Search.{done_with}
use Rattle.gate_settle.proofs.reach.tell.Given as goal

abbrev pub invariant-loop-net : goal.invariant-loop-net
invariant-loop-net l = done_with (drop l.net-index l.nets) l.on_loop l.visits ≡ done_with l.nets l.on_loop l.fn.visits
