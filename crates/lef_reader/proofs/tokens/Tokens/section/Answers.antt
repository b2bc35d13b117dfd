use Rattle.std.proofs.Common.{sym, ap, refl, ◌∙◌}
use Rattle.grammar.specs.Reading.{read}
use Rattle.lef_reader.specs.declared.until.Opened.TheVariants as openings
use Rattle.lef_reader.specs.Passing.{past_statement}
use Rattle.lef_reader.specs.OutsideGrammar.{section, section_rest}
use Rattle.lef_reader.specs.Steps.{rest, more}
use Rattle.lef_reader.proofs.OverTokens.{look_goes}
use Rattle.lef_reader.proofs.Skipped.{behind_read}
use Rattle.lef_reader.proofs.OutsideReads as reads
use Rattle.lef_reader.proofs.OutsideReads.{behind_halts, finds_along}
use Rattle.lef_reader.proofs.tokens.Tokens.section.Goals as goal

pub shift-requires : goal.shift-requires
shift-requires c = look_goes c.args.source.now c.args.self.now.ahead _ c.requires refl

pub returns-then-can_name : goal.returns-then-can_name
returns-then-can_name c =
    let source = c.args.source.now in
    let limits = c.args.limits.now in
    finds_along c.section_name.result _ (read (section_rest source limits) openings.Nothing (rest c.shift.new.self)) _
    (ap (read (section source limits) openings.End) c.shift.ensures ∙ reads.section_named source limits c.args.self.now.ahead c.shift.new.self.ahead (more c.shift.new.self) c.requires)
    c.section_name.ensures

pub returns-then-not-is_passed : goal.returns-then-not-is_passed
returns-then-not-is_passed c =
    let source = c.args.source.now in
    let limits = c.args.limits.now in
    ap (read (section source limits) openings.End) c.shift.ensures
    ∙ reads.section_stops source limits c.args.self.now.ahead c.shift.new.self.ahead (more c.shift.new.self) c.requires (sym c.can_name.ensures ∙ c.if-can_name.false) (sym c.is_passed.ensures ∙ c.if-not-is_passed.true)

pub returns-in-Err : goal.returns-in-Err
returns-in-Err c =
    let source = c.args.source.now in
    let limits = c.args.limits.now in
    behind_halts c.in-Err.halt (past_statement source (rest c.shift.new.self)) _ openings.Nothing _
    (ap (read (section source limits) openings.End) c.shift.ensures
    ∙ reads.section_other source limits c.args.self.now.ahead c.shift.new.self.ahead (more c.shift.new.self) c.requires (sym c.can_name.ensures ∙ c.if-can_name.false) (sym c.is_passed.ensures ∙ c.if-not-is_passed.false))
    c.in-Err.ensures

pub returns-in-Ok : goal.returns-in-Ok
returns-in-Ok c =
    let source = c.args.source.now in
    let limits = c.args.limits.now in
    ap (read (section source limits) openings.End) c.shift.ensures
    ∙ reads.section_other source limits c.args.self.now.ahead c.shift.new.self.ahead (more c.shift.new.self) c.requires (sym c.can_name.ensures ∙ c.if-can_name.false) (sym c.is_passed.ensures ∙ c.if-not-is_passed.false)
    ∙ ap (behind_read openings.Nothing) c.in-Ok.ensures
