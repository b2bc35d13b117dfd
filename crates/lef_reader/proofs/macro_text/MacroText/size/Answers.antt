use Rattle.std.proofs.Common.{None, ap, refl, ◌∙◌}
use Rattle.lef_reader.specs.Passing.{passed}
use Rattle.lef_reader.specs.MacroGrammar.{size}
use Rattle.lef_reader.specs.Steps.{rest}
use Rattle.lef_reader.specs.declared.until.Until.TheVariants.{Semicolon}
use Rattle.grammar.specs.Reading.{read}
use Rattle.lef_reader.proofs.OverTokens.{look_goes}
use Rattle.lef_reader.proofs.Skipped.{halts_along, keeping}
use Rattle.lef_reader.proofs.PinReads.{passes_halts}
use Rattle.lef_reader.proofs.MacroReads.{sized, same, size_read}
use Rattle.lef_reader.proofs.macro_text.MacroText.size.Goals as goal

pub shift-requires : goal.shift-requires
shift-requires c = look_goes c.args.source.now c.args.tokens.now.ahead _ c.requires refl

pub returns-in-Err : goal.returns-in-Err
returns-in-Err c =
    let source = c.args.source.now in
    let m = c.args.self.now in
    halts_along c.in-Err.halt _ _ _ (ap (read (size source) m) c.shift.ensures ∙ size_read source m c.args.tokens.now.ahead (rest c.shift.new.self) c.requires)
    (passes_halts c.in-Err.halt (sized m) same (passed source Semicolon None (rest c.shift.new.self)) _ c.in-Err.ensures)

pub returns-in-Ok : goal.returns-in-Ok
returns-in-Ok c =
    let source = c.args.source.now in
    let m = c.args.self.now in
    ap (read (size source) m) c.shift.ensures
    ∙ size_read source m c.args.tokens.now.ahead (rest c.shift.new.self) c.requires
    ∙ ap (keeping (sized m) same) c.in-Ok.ensures
