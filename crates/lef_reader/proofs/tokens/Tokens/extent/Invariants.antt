use Rattle.std.proofs.Common.{◌≡◌, None, length}
use Rattle.lef_reader.specs.Passing.{passed}
use Rattle.lef_reader.specs.Steps.{rest}
use Rattle.lef_reader.proofs.tokens.Tokens.extent.Given as goal

abbrev pub invariant-words : goal.invariant-words
invariant-words l = passed l.source l.until l.extent (rest l.self) ≡ passed l.source l.until None (rest l.fn.self)

abbrev pub decreases-words : goal.decreases-words
decreases-words l = length (rest l.self)
