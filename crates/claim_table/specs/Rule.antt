-- The rule of a batch's table: each number below the word was claimed once, and the budgets bound how far the word goes past the cells.
use Rattle.std.specs.Prelude.{◌≡◌, ℕ, ◌≤◌, ◌-◌, ◌+◌, List, [], ◌∷◌, ◌++◌, length, slice_index}
use Rattle.std.specs.List.{sum_by}
use mathlib.Core.Option.{some}
use lib.ListN.{get_elem?}
use Rattle.atomic_table.specs.Table.{State}
use Rattle.claim_table.specs.Counts.{times, beyond, once_below}
use Rattle.claim_table.specs.declared.rule.ClaimView.{ClaimView}
use Rattle.claim_table.specs.declared.rule.BatchSize.{BatchSize}

-- a list has at most as many numbers not below the number of cells as its budget, and with no budget it is empty
abbrev pub IsWithin : ℕ → ClaimView → Type 0
IsWithin cells v = (beyond cells v.numbers ≤ v.budget) × (v.budget ≡ 0 → v.numbers ≡ [])

-- There is one word. Each number below it stands once in one list, and no other number does. The budgets add up to the workers.
abbrev pub Keeps : BatchSize → State ℕ ClaimView → Type 0
Keeps batch s =
    (length s.words ≡ 1)
    × ((x : ℕ) → sum_by (λ v. times x v.numbers) s.views ≡ once_below x (slice_index s.words 0))
    × (sum_by (λ v. v.budget) s.views ≡ batch.workers)
    × ((seat : ℕ) (v : ClaimView) → get_elem? s.views seat ≡ some v → IsWithin batch.cells v)

abbrev pub view_of : List ℕ → ℕ → ClaimView
view_of numbers budget = record { numbers = numbers; budget = budget }

-- the view after a claim
abbrev pub after_claim : ClaimView → ℕ → ClaimView
after_claim v n = view_of (v.numbers ++ n ∷ []) v.budget

-- the views after a split
abbrev pub kept_part : ℕ → ClaimView → ClaimView
kept_part budget v = view_of v.numbers (v.budget - budget)

abbrev pub new_part : ℕ → ClaimView
new_part budget = view_of [] budget

-- the view after a join
abbrev pub both_parts : ClaimView → ClaimView → ClaimView
both_parts v w = view_of (v.numbers ++ w.numbers) (v.budget + w.budget)
