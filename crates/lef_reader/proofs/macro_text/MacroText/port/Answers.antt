use Rattle.std.proofs.Common.{None, Ok, ap, refl, ◌∙◌, sym}
use Rattle.lef_reader.specs.Passing.{passed}
use Rattle.lef_reader.specs.MacroActions.{with_port}
use Rattle.lef_reader.specs.MacroGrammar.{port}
use Rattle.lef_reader.specs.Steps.{rest}
use Rattle.lef_reader.specs.declared.until.Until.TheVariants.{End}
use Rattle.grammar.specs.Reading.{read}
use Rattle.lef_reader.proofs.OverTokens.{look_goes}
use Rattle.lef_reader.proofs.Skipped.{halts_along, keeping}
use Rattle.lef_reader.proofs.PinReads.{passes_halts, ported, port_read}
use Rattle.lef_reader.proofs.macro_text.MacroText.port.Goals as goal

pub shift-requires : goal.shift-requires
shift-requires c = look_goes c.args.source.now c.args.tokens.now.ahead _ c.requires refl

pub returns-in-Err : goal.returns-in-Err
returns-in-Err c =
    let source = c.args.source.now in
    let m = c.args.self.now in
    halts_along c.in-Err.halt _ _ _ (ap (read (port source) m) c.shift.ensures ∙ port_read source m c.args.tokens.now.ahead (rest c.shift.new.self) c.requires)
    (passes_halts c.in-Err.halt (ported m) (with_port source) (passed source End None (rest c.shift.new.self)) _ c.in-Err.ensures)

pub returns : goal.returns
returns c =
    let source = c.args.source.now in
    let m = c.args.self.now in
    ap (read (port source) m) c.shift.ensures
    ∙ port_read source m c.args.tokens.now.ahead (rest c.shift.new.self) c.requires
    ∙ ap (keeping (ported m) (with_port source)) c.in-Ok.ensures
    ∙ ap (λ z. Ok (z, rest c.extent.new.self)) (sym c.in_ok-end_port.ensures)
