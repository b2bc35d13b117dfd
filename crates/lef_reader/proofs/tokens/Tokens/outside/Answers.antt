use Rattle.std.proofs.Common.{sym, ap, ◌∙◌}
use Rattle.lef_tokens.specs.Looks.{is_plain}
use Rattle.lef_reader.specs.Steps.{more}
use Rattle.lef_reader.proofs.OutsideReads as reads
use Rattle.lef_reader.proofs.OutsideReads.{behind_halts, finds_along}
use Rattle.lef_reader.proofs.tokens.Tokens.outside.Goals as goal

pub returns-in-Macro : goal.returns-in-Macro
returns-in-Macro c =
    finds_along c.title.result _ _ _ (reads.outside_title c.args.source.now c.args.limits.now c.args.lef.now c.args.self.now.ahead (more c.args.self.now) (sym c.in-Macro.ensures)) c.title.ensures

pub returns-in-Section : goal.returns-in-Section
returns-in-Section c =
    finds_along c.section.result _ _ _ (reads.outside_section c.args.source.now c.args.limits.now c.args.lef.now c.args.self.now.ahead (more c.args.self.now) (sym c.in-Section.ensures)) c.section.ensures

pub returns-in-Block : goal.returns-in-Block
returns-in-Block c = reads.outside_block c.args.source.now c.args.limits.now c.args.lef.now c.args.self.now.ahead (more c.args.self.now) (sym c.in-Block.ensures) ∙ c.block.ensures

pub returns-in-Extension : goal.returns-in-Extension
returns-in-Extension c =
    finds_along c.extension.result _ _ _ (reads.outside_extension c.args.source.now c.args.limits.now c.args.lef.now c.args.self.now.ahead (more c.args.self.now) (sym c.in-Extension.ensures)) c.extension.ensures

pub returns-in-End : goal.returns-in-End
returns-in-End c =
    finds_along c.ending.result _ _ _ (reads.outside_ending c.args.source.now c.args.limits.now c.args.lef.now c.args.self.now.ahead (more c.args.self.now) (sym c.in-End.ensures)) c.ending.ensures

pub returns-in-Barred : goal.returns-in-Barred
returns-in-Barred c = reads.outside_barred c.args.source.now c.args.limits.now c.args.lef.now c.args.self.now.ahead (more c.args.self.now) (sym c.in-Barred.ensures)

pub returns-in-Over : goal.returns-in-Over
returns-in-Over c = reads.outside_over c.args.source.now c.args.limits.now c.args.lef.now c.args.self.now.ahead (more c.args.self.now) (sym c.in-Over.ensures)

pub plain-requires : goal.plain-requires
plain-requires c =
    ap is_plain (sym c.look.ensures)
    ∙ reads.other_plain c.look.result c.in_default.not-Macro c.in_default.not-Section c.in_default.not-Block c.in_default.not-Extension c.in_default.not-End c.in_default.not-Barred c.in_default.not-Over

pub returns-in_default : goal.returns-in_default
returns-in_default c =
    finds_along c.plain.result _ _ _
    (reads.outside_plain c.args.source.now c.args.limits.now c.args.lef.now c.args.self.now.ahead (more c.args.self.now)
    (ap is_plain (sym c.look.ensures)
    ∙ reads.other_plain c.look.result c.in_default.not-Macro c.in_default.not-Section c.in_default.not-Block c.in_default.not-Extension c.in_default.not-End c.in_default.not-Barred c.in_default.not-Over))
    c.plain.ensures
