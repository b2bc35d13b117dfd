use Rattle.std.proofs.Common.{sym, ◌∙◌}
use Rattle.grammar.specs.Rule.{many}
use Rattle.lef_reader.specs.MacroGrammar.{pin_item, pin_end, pin_body}
use Rattle.lef_reader.specs.Steps.{more, rest}
use Rattle.lef_reader.proofs.PinReads.{is_end_look, no_pin_end}
use Rattle.lef_reader.proofs.Repeats.{then_ok, then_halts, then_same}
use Rattle.lef_reader.proofs.macro_text.MacroText.pin_body.Goals as goal

pub returns-in-Err : goal.returns-in-Err
unfolding pin_body
returns-in-Err c =
    let source = c.args.source.now in
    then_halts (many (pin_item source)) (pin_end source c.args.name) c.in-Err.halt c.args.self.now (rest c.args.tokens.now) _ c.in-Err.ensures

pub returns-then-not-is_end : goal.returns-then-not-is_end
unfolding pin_body
returns-then-not-is_end c =
    let source = c.args.source.now in
    let tokens = c.pin_items.new.tokens in
    then_same (many (pin_item source)) (pin_end source c.args.name) c.args.self.now c.pin_items.new.self (rest c.args.tokens.now) (rest tokens) c.in_default.ensures
    ∙ no_pin_end source c.args.name c.pin_items.new.self c.look.result tokens.ahead (more tokens) c.look.ensures (sym c.is_end.ensures ∙ c.if-not-is_end.true)

pub pin_end-requires : goal.pin_end-requires
pin_end-requires c = sym c.look.ensures ∙ is_end_look c.look.result (sym c.is_end.ensures ∙ c.if-not-is_end.false)

pub returns : goal.returns
unfolding pin_body
returns c =
    let source = c.args.source.now in
    then_ok (many (pin_item source)) (pin_end source c.args.name) c.pin_end.result c.args.self.now c.pin_items.new.self _ (rest c.args.tokens.now) (rest c.pin_items.new.tokens) _ c.in_default.ensures c.pin_end.ensures
