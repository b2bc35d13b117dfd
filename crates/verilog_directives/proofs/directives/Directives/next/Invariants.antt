use Rattle.std.proofs.Common.{◌≡◌, length}
use Rattle.verilog_directives.specs.Directives.{left}
use Rattle.verilog_directives.specs.Lookahead.{to_come}
use Rattle.verilog_directives.proofs.directives.Directives.next.Given as goal

abbrev pub invariant-loop-item : goal.invariant-loop-item
invariant-loop-item l = record {
  text : l.self.tokens.source.now ≡ l.fn.self.tokens.source.now;
  so_far : left l.fn.self ≡ left l.self;
}

abbrev pub decreases-loop-item : goal.decreases-loop-item
decreases-loop-item l = length (to_come l.self.tokens)
