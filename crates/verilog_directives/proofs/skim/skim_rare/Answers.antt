use Rattle.std.proofs.Common.{sym, ◌∙◌}
use Rattle.verilog_directives.proofs.Skims.{blank, line_end}
use Rattle.verilog_directives.proofs.skim.skim_rare.Goals as goal

pub returns-then-is_blank : goal.returns-then-is_blank
returns-then-is_blank c = blank c.args.byte c.args.rest.now c.args.text.now c.requires.text (sym c.is_blank.ensures ∙ c.if-is_blank.true)

pub returns-then-byte-eq10 : goal.returns-then-byte-eq10
returns-then-byte-eq10 c = line_end c.args.byte c.args.rest.now c.args.text.now c.requires.text c.if-byte-eq10.true
