use Rattle.std.proofs.Common.{sym, ap, refl, ◌∙◌, arith}
use Rattle.grammar.specs.Reading.{read}
use Rattle.lef_reader.specs.declared.until.Opened.TheVariants as openings
use Rattle.lef_reader.specs.OutsideGrammar.{macro_name, title}
use Rattle.lef_reader.specs.Steps.{rest, more}
use Rattle.lef_reader.proofs.OverTokens.{look_goes}
use Rattle.lef_reader.proofs.OutsideReads as reads
use Rattle.lef_reader.proofs.OutsideReads.{behind_halts, finds_along}
use Rattle.lef_reader.proofs.tokens.Tokens.title.Goals as goal

pub returns-then-limits-len : goal.returns-then-limits-len
returns-then-limits-len c = reads.title_full c.args.source.now c.args.limits.now c.args.lef.now c.args.self.now.ahead (more c.args.self.now) c.requires (omega arith)

pub shift-requires : goal.shift-requires
shift-requires c = look_goes c.args.source.now c.args.self.now.ahead _ c.requires refl

pub returns-then-not-can_name : goal.returns-then-not-can_name
returns-then-not-can_name c =
    let source = c.args.source.now in
    let limits = c.args.limits.now in
    ap (read (title source limits c.args.lef.now) openings.End) c.shift.ensures
    ∙ reads.title_counted source limits c.args.lef.now c.args.self.now.ahead (rest c.shift.new.self) c.requires (omega arith)
    ∙ reads.name_bad source limits c.args.lef.now c.shift.new.self.ahead (more c.shift.new.self) (sym c.can_name.ensures ∙ c.if-not-can_name.true)

pub macro_name-requires : goal.macro_name-requires
macro_name-requires c = sym c.can_name.ensures ∙ c.if-not-can_name.false

pub returns : goal.returns
returns c =
    let source = c.args.source.now in
    let limits = c.args.limits.now in
    finds_along c.macro_name.result _ (read (macro_name source limits c.args.lef.now) openings.End (rest c.shift.new.self)) _
    (ap (read (title source limits c.args.lef.now) openings.End) c.shift.ensures
    ∙ reads.title_counted source limits c.args.lef.now c.args.self.now.ahead (rest c.shift.new.self) c.requires (omega arith))
    c.macro_name.ensures
