use Rattle.std.proofs.Common.{sym, ap, ◌∙◌}
use Rattle.grammar.specs.Reading.{read}
use Rattle.file_rules.specs.Names.{is_too_long}
use Rattle.lef_reader.specs.declared.until.Opened.TheVariants as openings
use Rattle.lef_reader.specs.OutsideGrammar.{section_rest}
use Rattle.lef_reader.specs.Steps.{rest, more}
use Rattle.lef_reader.proofs.PinReads.{can_name_goes}
use Rattle.lef_reader.proofs.OutsideReads as reads
use Rattle.lef_reader.proofs.OutsideReads.{behind_halts, finds_along}
use Rattle.lef_reader.proofs.tokens.Tokens.section_name.Goals as goal

pub returns-then-is_too_long : goal.returns-then-is_too_long
returns-then-is_too_long c = reads.section_long c.args.source.now c.args.limits.now c.args.self.now.ahead (more c.args.self.now) c.requires (ap (is_too_long c.args.limits.now) (sym c.text.ensures) ∙ sym c.is_too_long.ensures ∙ c.if-is_too_long.true)

pub shift-requires : goal.shift-requires
shift-requires c = can_name_goes c.args.source.now c.args.limits.now c.args.self.now.ahead c.requires

pub returns : goal.returns
returns c =
    let source = c.args.source.now in
    let limits = c.args.limits.now in
    ap (read (section_rest source limits) openings.Nothing) c.shift.ensures
    ∙ reads.section_begins source limits c.args.self.now.ahead (rest c.shift.new.self) c.requires (ap (is_too_long limits) (sym c.text.ensures) ∙ sym c.is_too_long.ensures ∙ c.if-is_too_long.false)
