use Rattle.std.proofs.Common.{◌≡◌, ◌++◌, take}
use Rattle.std.specs.List.{flat_map}
use Rattle.verdict_text.specs.Lines.{finding_line}
use Rattle.verdict_text.proofs.write.add_findings.Given as goal

abbrev pub invariant-loop-finding : goal.invariant-loop-finding
invariant-loop-finding l = l.lines ≡ l.initial.lines ++ flat_map finding_line (take l.finding-index l.findings)
