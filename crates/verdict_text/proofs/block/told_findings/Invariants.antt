use Rattle.std.proofs.Common.{◌≡◌, map, take, Some}
use Rattle.verdict_text.specs.Told.{told_findings}
use Rattle.verdict_text.proofs.block.told_findings.Given as goal

abbrev pub invariant-loop-line : goal.invariant-loop-line
invariant-loop-line l = told_findings (map (λ b. b.now) (take l.line-index l.lines)) ≡ Some l.findings
