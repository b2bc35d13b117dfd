-- What clauses see of a table and of its seats.
use Rattle.std.specs.Prelude.{◌≡◌, ℕ, List}
use Rattle.atomic_table.specs.Seated.{TableId}
use Rattle.claim_table.specs.declared.table.ClaimTable.{ClaimTable}
use Rattle.claim_table.specs.declared.table.ClaimSeat.{ClaimSeat}

-- the numbers that the seat claimed, in order
abbrev pub claimed : ClaimSeat → List ℕ
claimed s = s.seat.me.0.numbers

abbrev pub budget_of : ClaimSeat → ℕ
budget_of s = s.seat.me.0.budget

abbrev pub table_of : ClaimSeat → TableId
table_of s = s.seat.table_id

abbrev pub cells_of : ClaimTable → ℕ
cells_of t = t.cells

abbrev pub workers_of : ClaimTable → ℕ
workers_of t = t.table.shared.key.workers

-- the seat is of this table
abbrev pub IsSeatOf : ClaimTable → ClaimSeat → Type 0
IsSeatOf t s = table_of s ≡ t.table.shared.table_id
