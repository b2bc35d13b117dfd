use Rattle.std.proofs.Common.{refl, arith}
use Rattle.verilog_directives.specs.Lookahead.{to_come}
use Rattle.verilog_directives.proofs.Behinds.{start_stands, moved_start}
use Rattle.verilog_directives.proofs.lookahead.Lookahead.new.Goals as goal

pub invariant_of-result : goal.invariant_of-result
invariant_of-result c = record {
  within = omega arith;
  same = c.new.ensures.source;
  stand = start_stands c.args.source.now c.new.result c.new.ensures.left;
  inside = refl;
}

pub returns-clause-to_come : goal.returns-clause-to_come
unfolding to_come
returns-clause-to_come c = moved_start c.new.result c.args.source.now c.new.ensures.left
