use Rattle.std.proofs.Common.{◌≡◌, map, take}
use Rattle.house_rules.specs.Book.{rule_of}
use Rattle.house_rules.specs.Rules.{house_findings}
use Rattle.house_rules.proofs.book.HouseBook.findings.Given as goal

abbrev pub invariant-loop-rule : goal.invariant-loop-rule
invariant-loop-rule g l = l.found.items ≡ house_findings (map rule_of (take l.rule-index l.rule-items)) l.table
