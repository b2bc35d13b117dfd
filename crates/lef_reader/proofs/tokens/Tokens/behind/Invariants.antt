use Rattle.std.proofs.Common.{◌≡◌, length}
use Rattle.lef_reader.specs.Passing.{behind}
use Rattle.lef_reader.specs.Steps.{rest}
use Rattle.lef_reader.proofs.tokens.Tokens.behind.Given as goal

abbrev pub invariant-words : goal.invariant-words
invariant-words l = behind l.source l.closing l.ended (rest l.self) ≡ behind l.source l.closing l.fn.after_end (rest l.fn.self)

abbrev pub decreases-words : goal.decreases-words
decreases-words l = length (rest l.self)
