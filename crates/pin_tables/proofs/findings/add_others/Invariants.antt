use Rattle.std.proofs.Common.{◌≡◌, ◌++◌, map}
use Rattle.pin_tables.specs.Findings.{lacking}
use Rattle.pin_tables.specs.Lookups.{names_in}
use Rattle.pin_tables.proofs.findings.add_others.Given as goal

abbrev pub invariant-loop-name : goal.invariant-loop-name
invariant-loop-name l = l.found.items ++ map lacking (map (λ k. k.items) l.name-iterator) ≡ l.initial.found.items ++ map lacking (names_in l.others)
