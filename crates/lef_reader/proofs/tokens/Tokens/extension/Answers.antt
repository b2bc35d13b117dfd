use Rattle.std.proofs.Common.{None, ap, refl, ◌∙◌}
use Rattle.grammar.specs.Reading.{read}
use Rattle.lef_reader.specs.declared.until.Opened.TheVariants as openings
use Rattle.lef_reader.specs.declared.until.Until.TheVariants as untils
use Rattle.lef_reader.specs.Passing.{passed, dropped}
use Rattle.lef_reader.specs.OutsideGrammar.{extension}
use Rattle.lef_reader.specs.Steps.{rest}
use Rattle.lef_reader.proofs.OverTokens.{look_goes}
use Rattle.lef_reader.proofs.Skipped.{behind_read}
use Rattle.lef_reader.proofs.OutsideReads as reads
use Rattle.lef_reader.proofs.OutsideReads.{behind_halts, finds_along}
use Rattle.lef_reader.proofs.tokens.Tokens.extension.Goals as goal

pub shift-requires : goal.shift-requires
shift-requires c = look_goes c.args.source.now c.args.self.now.ahead _ c.requires refl

pub returns-in-Err : goal.returns-in-Err
returns-in-Err c =
    let source = c.args.source.now in
    let tokens = rest c.shift.new.self in
    behind_halts c.in-Err.halt (dropped (passed source untils.EndExt None tokens)) _ openings.Nothing _
    (ap (read (extension source) openings.End) c.shift.ensures ∙ reads.extension_read source c.args.self.now.ahead tokens c.requires) c.in-Err.ensures

pub returns-in-Ok : goal.returns-in-Ok
returns-in-Ok c =
    let source = c.args.source.now in
    ap (read (extension source) openings.End) c.shift.ensures ∙ reads.extension_read source c.args.self.now.ahead (rest c.shift.new.self) c.requires ∙ ap (behind_read openings.Nothing) c.in-Ok.ensures
