use Rattle.std.proofs.Common.{◌≡◌, length}
use Rattle.grammar.specs.Answers.{read_all}
use Rattle.correspondence.specs.Grammar.{tables, told}
use Rattle.correspondence.specs.Left.{lines_left}
use Rattle.correspondence.specs.Lines.{lines_of}
use Rattle.correspondence.specs.Parts.{nothing}
use Rattle.correspondence.specs.Steps.{reads}
use Rattle.correspondence.proofs.public_call.read_lines.Given as goal

abbrev pub invariant-lines : goal.invariant-lines
invariant-lines l = told l.text (reads l.limits l.reader (lines_left l.lines)) ≡ told l.text (read_all (tables l.limits) nothing (lines_of l.text))

abbrev pub decreases-lines : goal.decreases-lines
decreases-lines l = length (lines_left l.lines)
