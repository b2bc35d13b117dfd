use Rattle.std.proofs.Common.{◌≡◌, take}
use Rattle.waivers.specs.Cover.{all_waived}
use Rattle.waivers.proofs.applied.all_waived.Given as goal

abbrev pub invariant-loop-finding : goal.invariant-loop-finding
invariant-loop-finding l = l.all ≡ all_waived l.waivers l.cell l.day (take l.finding-index l.findings)
