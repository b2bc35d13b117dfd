use Rattle.std.proofs.Common.{◌≡◌, length}
use Rattle.udp_table.specs.Reached.{AreEndsBelow}
use Rattle.udp_table.proofs.order.fill.Given as goal

abbrev pub invariant-loop-subset : goal.invariant-loop-subset
invariant-loop-subset l = record {
  room : length l.places ≡ 1024;
  ends : AreEndsBelow l.rows l.old l.new l.fn.state l.changed l.places l.subset;
}
