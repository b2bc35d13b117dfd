use Rattle.std.proofs.Common.{sym, ◌∙◌}
use Rattle.grammar.specs.Rule.{many}
use Rattle.lef_reader.specs.MacroGrammar.{item, macro_end, macro_body}
use Rattle.lef_reader.specs.Steps.{more, rest}
use Rattle.lef_reader.proofs.PinReads.{is_end_look}
use Rattle.lef_reader.proofs.MacroReads.{no_macro_end}
use Rattle.lef_reader.proofs.Repeats.{then_ok, then_halts, then_same}
use Rattle.lef_reader.proofs.macro_text.MacroText.body.Goals as goal

pub returns-in-Err : goal.returns-in-Err
unfolding macro_body
returns-in-Err c =
    let source = c.args.source.now in
    then_halts (many (item source c.args.limits.now)) (macro_end source c.args.name) c.in-Err.halt c.args.self.now (rest c.args.tokens.now) _ c.in-Err.ensures

pub returns-then-not-is_end : goal.returns-then-not-is_end
unfolding macro_body
returns-then-not-is_end c =
    let source = c.args.source.now in
    let tokens = c.items.new.tokens in
    then_same (many (item source c.args.limits.now)) (macro_end source c.args.name) c.args.self.now c.items.new.self (rest c.args.tokens.now) (rest tokens) c.in_default.ensures
    ∙ no_macro_end source c.args.name c.items.new.self c.look.result tokens.ahead (more tokens) c.look.ensures (sym c.is_end.ensures ∙ c.if-not-is_end.true)

pub macro_end-requires : goal.macro_end-requires
macro_end-requires c = sym c.look.ensures ∙ is_end_look c.look.result (sym c.is_end.ensures ∙ c.if-not-is_end.false)

pub returns : goal.returns
unfolding macro_body
returns c =
    let source = c.args.source.now in
    then_ok (many (item source c.args.limits.now)) (macro_end source c.args.name) c.macro_end.result c.args.self.now c.items.new.self _ (rest c.args.tokens.now) (rest c.items.new.tokens) _ c.in_default.ensures (c.macro_end.ensures c.items.new.self)
