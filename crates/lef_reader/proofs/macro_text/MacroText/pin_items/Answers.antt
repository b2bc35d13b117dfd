use Rattle.std.proofs.Common.{sym, ◌∙◌}
use Rattle.lef_reader.specs.MacroGrammar.{pin_item}
use Rattle.lef_reader.specs.Steps.{more, rest}
use Rattle.lef_reader.proofs.Skipped.{halts_along}
use Rattle.lef_reader.proofs.Simple.{pin_item_begins, pin_item_simple}
use Rattle.lef_reader.proofs.Repeats.{turn_ok, turn_halts, turn_less, turns_end, short_item}
use Rattle.lef_reader.proofs.macro_text.MacroText.pin_items.Goals as goal

pub returns-in-Err : goal.returns-in-Err
returns-in-Err c =
    let source = c.args.source.now in
    let begins = pin_item_begins source c.look.result c.items.tokens.ahead c.look.ensures ∙ sym c.is_statement.ensures ∙ c.items-test.true in
    halts_along c.in-Err.halt _ _ _ (sym c.items.invariant)
    (turn_halts (pin_item source) (pin_item_simple source) (short_item source) c.in-Err.halt c.items.self c.items.tokens.ahead (more c.items.tokens) _ begins c.in-Err.ensures)

pub items-preserved : goal.items-preserved
items-preserved c =
    let source = c.args.source.now in
    let begins = pin_item_begins source c.look.result c.items.tokens.ahead c.look.ensures ∙ sym c.is_statement.ensures ∙ c.items-test.true in
    turn_ok (pin_item source) (pin_item_simple source) (short_item source) c.items.self c.pin_item.new.self c.items.tokens.ahead (more c.items.tokens) (rest c.pin_item.new.tokens) begins c.in_default.ensures
    ∙ c.items.invariant

pub items-smaller : goal.items-smaller
items-smaller c =
    let source = c.args.source.now in
    turn_less (pin_item source) (pin_item_simple source) (short_item source) c.items.self c.pin_item.new.self (rest c.items.tokens) (rest c.pin_item.new.tokens) c.in_default.ensures

pub returns : goal.returns
returns c =
    let source = c.args.source.now in
    let none = pin_item_begins source c.look.result c.items.tokens.ahead c.look.ensures ∙ sym c.is_statement.ensures ∙ c.items-test.false in
    sym c.items.invariant ∙ turns_end (pin_item source) c.items.self c.items.tokens.ahead (more c.items.tokens) none
