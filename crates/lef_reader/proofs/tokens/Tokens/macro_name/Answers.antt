use Rattle.std.proofs.Common.{sym, ap, ◌∙◌}
use Rattle.grammar.specs.Reading.{read}
use Rattle.name_index.specs.Places.{is_known}
use Rattle.file_rules.specs.Names.{is_too_long}
use Rattle.lef_reader.specs.declared.until.Opened.TheVariants as openings
use Rattle.lef_reader.specs.OutsideGrammar.{macro_name}
use Rattle.lef_reader.specs.Steps.{rest, more}
use Rattle.lef_reader.proofs.PinReads.{can_name_goes}
use Rattle.lef_reader.proofs.OutsideReads as reads
use Rattle.lef_reader.proofs.OutsideReads.{behind_halts, finds_along}
use Rattle.lef_reader.proofs.tokens.Tokens.macro_name.Goals as goal

pub returns-then-is_too_long : goal.returns-then-is_too_long
returns-then-is_too_long c = reads.name_long c.args.source.now c.args.limits.now c.args.lef.now c.args.self.now.ahead (more c.args.self.now) c.requires (ap (is_too_long c.args.limits.now) (sym c.text.ensures) ∙ sym c.is_too_long.ensures ∙ c.if-is_too_long.true)

pub returns-then-contains : goal.returns-then-contains
returns-then-contains c =
    let source = c.args.source.now in
    reads.name_known source c.args.limits.now c.args.lef.now c.args.self.now.ahead (more c.args.self.now) c.requires (ap (is_too_long c.args.limits.now) (sym c.text.ensures) ∙ sym c.is_too_long.ensures ∙ c.if-is_too_long.false)
    (ap (λ w. is_known w c.args.lef.now.names) (sym c.text-2.ensures) ∙ sym c.contains.ensures ∙ c.if-contains.true)

pub shift-requires : goal.shift-requires
shift-requires c = can_name_goes c.args.source.now c.args.limits.now c.args.self.now.ahead c.requires

pub returns : goal.returns
returns c =
    let source = c.args.source.now in
    ap (read (macro_name source c.args.limits.now c.args.lef.now) openings.End) c.shift.ensures
    ∙ reads.name_new source c.args.limits.now c.args.lef.now c.args.self.now.ahead (rest c.shift.new.self) c.requires (ap (is_too_long c.args.limits.now) (sym c.text.ensures) ∙ sym c.is_too_long.ensures ∙ c.if-is_too_long.false)
    (ap (λ w. is_known w c.args.lef.now.names) (sym c.text-2.ensures) ∙ sym c.contains.ensures ∙ c.if-contains.false)
