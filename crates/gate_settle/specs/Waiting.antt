-- Gates that wait for their inputs while gates are put into an order.
use Rattle.std.specs.Prelude.{◌≡◌, ℕ, ◌<◌, Bool, true, false, List, [], ◌∷◌, ◌++◌, length, take, sum_by, slice_set, slice_index_or}
use Rattle.gate_settle.specs.declared.gate.Operand.{Operand}
use Rattle.gate_settle.specs.declared.gate.Gate.{Gate}
use Rattle.gate_settle.specs.declared.order.Waiter.{Waiter}
use Rattle.gate_settle.specs.declared.order.Missing.{Missing}
use Rattle.gate_settle.specs.Order.{is_known, all_known, is_input}

-- the inputs of each before the one that it waits for are known
abbrev pub AllScanned : List Bool → List Waiter → Type 0
AllScanned known [] = Unit {0}
AllScanned known (w ∷ waiters) = (all_known known (take w.input w.gate.inputs) ≡ true) × AllScanned known waiters

-- an input that isn't known, behind inputs that are
pub record IsMissing (known : List Bool) (inputs : List Operand) (m : Missing) : Type 0 where
  pub before : all_known known (take m.input inputs) ≡ true
  pub input : is_input inputs m.net ≡ true
  pub unknown : is_known known m.net ≡ false
  pub within : m.net < length known

-- each waits for this net, which isn't known
abbrev pub AllWait : List Bool → ℕ → List Waiter → Type 0
AllWait known n [] = Unit {0}
AllWait known n (w ∷ waiters) =
    (all_known known (take w.input w.gate.inputs) ≡ true) × (is_input w.gate.inputs n ≡ true) × (is_known known n ≡ false) × AllWait known n waiters

-- a sum over the gates of a row, and of rows
abbrev pub gates_in : (Gate → ℕ) → List Waiter → ℕ
gates_in f waiters = sum_by (λ w. f w.gate) waiters

abbrev pub gates_within : (Gate → ℕ) → List (List Waiter) → ℕ
gates_within f rows = sum_by (gates_in f) rows

-- the rows of these nets are empty, and their gates behind the others
abbrev pub emptied : List ℕ → List (List Waiter) → List (List Waiter)
emptied [] rows = rows
emptied (o ∷ outputs) rows = emptied outputs (slice_set rows o [])

abbrev pub woken : List ℕ → List (List Waiter) → List Waiter → List Waiter
woken [] rows fresh = fresh
woken (o ∷ outputs) rows fresh = woken outputs (slice_set rows o []) (fresh ++ slice_index_or rows o [])
