use Rattle.std.proofs.Common.{length}
use Rattle.text_scan.specs.Left.{left, followed}
use Rattle.liberty_statements.proofs.WholeText.{Holds}
use Rattle.liberty_statements.proofs.reader.read_statements.Given as goal

abbrev pub invariant-tokens : goal.invariant-tokens
invariant-tokens l = Holds l.source l.limits l.machine (followed l.token (left l.cursor))

abbrev pub decreases-tokens : goal.decreases-tokens
decreases-tokens l = length (followed l.token (left l.cursor))
