use Rattle.std.proofs.Common.{◌≡◌, ◌++◌, Some}
use Rattle.std.specs.List.{flat_map, range_with_len}
use Rattle.house_rules.specs.Book.{rule_of}
use Rattle.house_rules.specs.Rules.{found_at}
use Rattle.house_rules.proofs.findings.ask_of_pins.Given as goal

abbrev pub invariant-loop-place : goal.invariant-loop-place
invariant-loop-place g l = l.found.items ≡ l.initial.found.items ++ flat_map (λ place. found_at l.table (rule_of l.rule) (Some place)) (range_with_len 0 l.place)
