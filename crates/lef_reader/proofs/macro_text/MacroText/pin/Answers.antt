use Rattle.std.proofs.Common.{sym, refl, ◌∙◌, ◌∷◌, ap}
use Rattle.grammar.specs.Reading.{read}
use Rattle.lef_reader.specs.MacroGrammar.{pin, pin_body}
use Rattle.lef_reader.specs.Steps.{more, rest}
use Rattle.lef_reader.proofs.OverTokens.{look_goes}
use Rattle.lef_reader.proofs.Skipped.{gives_along, halts_along}
use Rattle.lef_reader.proofs.PinReads.{can_name_goes, pin_bad, pin_ok, pin_refused}
use Rattle.lef_reader.proofs.macro_text.MacroText.pin.Goals as goal

pub shift-requires : goal.shift-requires
shift-requires c = look_goes c.args.source.now c.args.tokens.now.ahead _ c.requires refl

pub returns-then-not-can_name : goal.returns-then-not-can_name
returns-then-not-can_name c =
    let source = c.args.source.now in
    ap (read (pin source c.args.limits.now) c.args.self.now) c.shift.ensures
    ∙ pin_bad source c.args.limits.now c.args.self.now c.args.tokens.now.ahead c.shift.new.self.ahead (more c.shift.new.self) c.requires (sym c.can_name.ensures ∙ c.if-not-can_name.true)

pub returns-in-Err : goal.returns-in-Err
returns-in-Err c =
    let source = c.args.source.now in
    halts_along c.in-Err.halt _ _ _ (ap (read (pin source c.args.limits.now) c.args.self.now) c.shift.ensures)
    (pin_refused source c.args.limits.now c.in-Err.halt c.args.self.now c.name_pin.new.self c.args.tokens.now.ahead c.shift.new.self.ahead (more c.shift.new.self) c.requires (sym c.can_name.ensures ∙ c.if-not-can_name.false) c.in-Err.ensures)

pub shift-requires-2 : goal.shift-requires-2
shift-requires-2 c = can_name_goes c.args.source.now c.args.limits.now c.shift.new.self.ahead (sym c.can_name.ensures ∙ c.if-not-can_name.false)

pub returns : goal.returns
returns c =
    let source = c.args.source.now in
    gives_along c.pin_body.result _ (read (pin_body source c.shift.new.self.ahead) c.name_pin.new.self (rest c.shift-2.new.self)) _ _
    (ap (read (pin source c.args.limits.now) c.args.self.now) (c.shift.ensures ∙ ap (λ z. c.args.tokens.now.ahead ∷ z) c.shift-2.ensures)
    ∙ pin_ok source c.args.limits.now c.args.self.now c.name_pin.new.self c.args.tokens.now.ahead c.shift.new.self.ahead (rest c.shift-2.new.self) c.requires (sym c.can_name.ensures ∙ c.if-not-can_name.false) c.in_default.ensures)
    c.pin_body.ensures
