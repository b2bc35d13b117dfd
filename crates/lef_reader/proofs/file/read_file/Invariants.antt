use Rattle.std.proofs.Common.{length}
use Rattle.text_scan.specs.declared.token.Style.TheVariants.{Lef}
use Rattle.text_scan.specs.Tokens.{tokens_of}
use Rattle.lef_reader.specs.File.{FileAnswer, no_lef}
use Rattle.lef_reader.specs.Steps.{rest}
use Rattle.lef_reader.specs.Turning.{SomeFile}
use Rattle.lef_reader.proofs.file.read_file.Given as goal

abbrev pub invariant-turns : goal.invariant-turns
invariant-turns l = (r : FileAnswer) → SomeFile l.source l.limits l.lef (rest l.tokens) r → SomeFile l.source l.limits no_lef (tokens_of Lef l.source) r

abbrev pub decreases-turns : goal.decreases-turns
decreases-turns l = length (rest l.tokens)
