use Rattle.std.proofs.Common.{◌≡◌, drop}
use Rattle.verilog_directives.specs.Held.{tokens}
use Rattle.verilog_directives.proofs.held.Held.without.Given as goal

abbrev pub invariant-loop : goal.invariant-loop
invariant-loop l = tokens l.held ≡ drop l.counter (tokens l.fn.self)
