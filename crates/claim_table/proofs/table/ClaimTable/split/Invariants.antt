use Rattle.claim_table.specs.Rule.{kept_part, new_part}
use Rattle.claim_table.proofs.table.ClaimTable.split.Given as goal

abbrev pub ghosts-split_by : goal.ghosts-split_by
ghosts-split_by a = record { left = kept_part a.budget; right = λ _. new_part a.budget }
