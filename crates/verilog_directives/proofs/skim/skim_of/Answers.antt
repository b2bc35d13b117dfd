use Rattle.std.proofs.Common.{sym, ◌∙◌}
use Rattle.verilog_directives.proofs.Skims.{space, sign}
use Rattle.verilog_directives.proofs.skim.skim_of.Goals as goal

pub returns-then-byte-eq32 : goal.returns-then-byte-eq32
returns-then-byte-eq32 c = space c.args.byte c.args.rest.now c.args.text.now c.requires.text c.if-byte-eq32.true

pub returns-then-is_plain_sign : goal.returns-then-is_plain_sign
returns-then-is_plain_sign c =
    sign c.args.byte c.args.rest.now c.args.text.now c.requires.text (sym c.is_letter.ensures ∙ c.if-is_letter.false) (sym c.is_digit.ensures ∙ c.if-is_digit.false) (sym c.is_plain_sign.ensures ∙ c.if-is_plain_sign.true)
