use Rattle.std.proofs.Common.{sym, ◌∙◌}
use Rattle.lef_reader.specs.MacroGrammar.{item}
use Rattle.lef_reader.specs.Steps.{more, rest}
use Rattle.lef_reader.proofs.Skipped.{halts_along}
use Rattle.lef_reader.proofs.Simple.{item_begins, item_simple}
use Rattle.lef_reader.proofs.Repeats.{turn_ok, turn_halts, turn_less, turns_end, short_macro_item}
use Rattle.lef_reader.proofs.macro_text.MacroText.items.Goals as goal

pub returns-in-Err : goal.returns-in-Err
returns-in-Err c =
    let source = c.args.source.now in
    let begins = item_begins source c.args.limits.now c.look.result c.items.tokens.ahead c.look.ensures ∙ sym c.is_statement.ensures ∙ c.items-test.true in
    halts_along c.in-Err.halt _ _ _ (sym c.items.invariant)
    (turn_halts (item source c.args.limits.now) (item_simple source c.args.limits.now) (short_macro_item source c.args.limits.now) c.in-Err.halt c.items.self c.items.tokens.ahead (more c.items.tokens) _ begins c.in-Err.ensures)

pub items-preserved : goal.items-preserved
items-preserved c =
    let source = c.args.source.now in
    let begins = item_begins source c.args.limits.now c.look.result c.items.tokens.ahead c.look.ensures ∙ sym c.is_statement.ensures ∙ c.items-test.true in
    turn_ok (item source c.args.limits.now) (item_simple source c.args.limits.now) (short_macro_item source c.args.limits.now) c.items.self c.item.new.self c.items.tokens.ahead (more c.items.tokens) (rest c.item.new.tokens) begins c.in_default.ensures
    ∙ c.items.invariant

pub items-smaller : goal.items-smaller
items-smaller c =
    let source = c.args.source.now in
    turn_less (item source c.args.limits.now) (item_simple source c.args.limits.now) (short_macro_item source c.args.limits.now) c.items.self c.item.new.self (rest c.items.tokens) (rest c.item.new.tokens) c.in_default.ensures

pub returns : goal.returns
returns c =
    let source = c.args.source.now in
    let none = item_begins source c.args.limits.now c.look.result c.items.tokens.ahead c.look.ensures ∙ sym c.is_statement.ensures ∙ c.items-test.false in
    sym c.items.invariant ∙ turns_end (item source c.args.limits.now) c.items.self c.items.tokens.ahead (more c.items.tokens) none
