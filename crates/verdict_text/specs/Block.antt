-- Which result a text is the block of, and which code a text is.
use Rattle.std.specs.Prelude.{◌≡◌, ◌≢◌, ℕ, List, Option, Some, None}
use Rattle.verdict_text.specs.Words.{code_word}
use Rattle.verdict_text.specs.Lines.{block}
use Rattle.verdict_text.specs.declared.finding.Code.{Code}
use Rattle.verdict_text.specs.WellFormed.{IsWellFormed}
use Rattle.verdict_text.specs.declared.verdict.CellResult.{CellResult}

-- the well-formed result whose block is exactly this text, and none exactly where no well-formed result has it
abbrev pub IsReadBack : List ℕ → Option CellResult → Type 0
IsReadBack text (Some r) = IsWellFormed r × (block r ≡ text)
IsReadBack text None = (r : CellResult) → IsWellFormed r → block r ≢ text

-- the code that a text is, and none exactly where it is no code's word
abbrev pub IsCode : List ℕ → Option Code → Type 0
IsCode text (Some code) = code_word code ≡ text
IsCode text None = (code : Code) → code_word code ≢ text
