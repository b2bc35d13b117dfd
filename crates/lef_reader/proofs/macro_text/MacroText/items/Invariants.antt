use Rattle.std.proofs.Common.{◌≡◌, length}
use Rattle.grammar.specs.Rule.{many}
use Rattle.grammar.specs.Reading.{read}
use Rattle.lef_reader.specs.MacroGrammar.{item}
use Rattle.lef_reader.specs.Steps.{rest}
use Rattle.lef_reader.proofs.macro_text.MacroText.items.Given as goal

abbrev pub invariant-items : goal.invariant-items
invariant-items l = read (many (item l.source l.limits)) l.self (rest l.tokens) ≡ read (many (item l.source l.limits)) l.fn.self (rest l.fn.tokens)

abbrev pub decreases-items : goal.decreases-items
decreases-items l = length (rest l.tokens)
