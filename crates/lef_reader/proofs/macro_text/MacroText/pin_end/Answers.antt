use Rattle.std.proofs.Common.{ap, refl, ◌∙◌, sym, Ok}
use Rattle.lef_reader.specs.MacroGrammar.{pin_end}
use Rattle.lef_reader.specs.Steps.{rest}
use Rattle.grammar.specs.Reading.{read}
use Rattle.lef_reader.proofs.OverTokens.{look_goes}
use Rattle.lef_reader.proofs.Skipped.{halts_along}
use Rattle.lef_reader.proofs.PinReads.{pin_ends, pin_halts}
use Rattle.lef_reader.proofs.macro_text.MacroText.pin_end.Goals as goal

pub shift-requires : goal.shift-requires
shift-requires c = look_goes c.args.source.now c.args.tokens.now.ahead _ c.requires refl

pub returns-in-Err : goal.returns-in-Err
returns-in-Err c =
    let source = c.args.source.now in
    let m = c.args.self.now in
    halts_along c.in-Err.halt _ _ _ (ap (read (pin_end source c.args.name) m) c.shift.ensures)
    (pin_halts source c.in-Err.halt c.args.name m c.args.tokens.now.ahead (rest c.shift.new.self) _ c.requires c.in-Err.ensures)

pub returns : goal.returns
returns c =
    let source = c.args.source.now in
    let m = c.args.self.now in
    ap (read (pin_end source c.args.name) m) c.shift.ensures
    ∙ pin_ends source c.args.name m c.args.tokens.now.ahead (rest c.shift.new.self) (rest c.end_name.new.self) c.requires c.in_default.ensures
    ∙ ap (λ z. Ok (z, rest c.end_name.new.self)) (sym c.in_ok-add_pin.ensures)
