use Rattle.std.proofs.Common.{◌≡◌, length}
use Rattle.grammar.specs.Rule.{many}
use Rattle.grammar.specs.Reading.{read}
use Rattle.lef_reader.specs.MacroGrammar.{pin_item}
use Rattle.lef_reader.specs.Steps.{rest}
use Rattle.lef_reader.proofs.macro_text.MacroText.pin_items.Given as goal

abbrev pub invariant-items : goal.invariant-items
invariant-items l = read (many (pin_item l.source)) l.self (rest l.tokens) ≡ read (many (pin_item l.source)) l.fn.self (rest l.fn.tokens)

abbrev pub decreases-items : goal.decreases-items
decreases-items l = length (rest l.tokens)
