use Rattle.std.proofs.Common.{drop, ap, ◌∙◌}
use Rattle.std.proofs.lemmas.List.{drop-drop}
use Rattle.verilog_directives.specs.Held.{tokens}
use Rattle.verilog_directives.proofs.held.Held.without.Goals as goal

pub loop-preserved : goal.loop-preserved
loop-preserved c = c.without_first-held.ensures ∙ ap (drop 1) c.loop.invariant ∙ drop-drop 1 c.loop.counter (tokens c.args.self)
