use Rattle.std.proofs.Common.{◌≡◌, drop}
use Rattle.verilog_modules.specs.Ports.{undirected}
use Rattle.verilog_modules.proofs.ports.Ports.undirected.Given as goal

abbrev pub invariant-loop-at : goal.invariant-loop-at
invariant-loop-at l = undirected l.ports ≡ undirected (drop l.at l.ports)
