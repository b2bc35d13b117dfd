use Rattle.std.proofs.Common.{◌≡◌}
use Rattle.verilog_directives.specs.Directives.{source}
use Rattle.verilog_directives.proofs.tests.left_of.Given as goal

abbrev pub invariant-loop : goal.invariant-loop
invariant-loop l = source l.directives ≡ l.text
