-- What a sequential primitive answers to several changes at once: the value on which all orders agree.
use Rattle.std.specs.Prelude.{ℕ, ◌+◌, List, [], ◌∷◌, map, slice_index_or, slice_set, if◌then◌else◌}
use Rattle.std.specs.List.{flat_map}
use Rattle.tern_core.specs.declared.tern.Tern.{Tern}
use Rattle.tern_core.specs.declared.tern.Tern.TheVariants.{Unknown}
use Rattle.tern_core.specs.Values.{common_of_all}
use Rattle.udp_table.specs.declared.row.Row.{Row}
use Rattle.udp_table.specs.Symbols.{differ}
use Rattle.udp_table.specs.Rows.{case_of}
use Rattle.udp_table.specs.Answers.{answer_of}

-- the inputs whose values differ, the first of which has this number
abbrev pub changed_from : ℕ → List Tern → List Tern → List ℕ
changed_from n (v ∷ old) (w ∷ new) = if differ v w then n ∷ changed_from (n + 1) old new else changed_from (n + 1) old new
changed_from n [] new = []
changed_from n (v ∷ old) [] = []

abbrev pub changed_inputs : List Tern → List Tern → List ℕ
changed_inputs old new = changed_from 0 old new

-- x put in each place of a list
abbrev pub insertions : ℕ → List ℕ → List (List ℕ)
insertions x [] = (x ∷ []) ∷ []
insertions x (y ∷ ys) = (x ∷ y ∷ ys) ∷ map (λ zs. y ∷ zs) (insertions x ys)

-- all orders in which the elements can stand
abbrev pub orders_of : List ℕ → List (List ℕ)
orders_of [] = [] ∷ []
orders_of (x ∷ xs) = flat_map (insertions x) (orders_of xs)

-- The state after inputs have taken their new values one by one in this order: the primitive is asked
-- at each of the changes, with the levels and the state that the changes before have left.
abbrev pub state_after : List Row → List Tern → List ℕ → List Tern → Tern → Tern
state_after rows new [] levels state = state
state_after rows new (input ∷ order) levels state =
    let next = slice_set levels input (slice_index_or new input Unknown) in
    state_after rows new order next (answer_of rows (case_of input (slice_index_or levels input Unknown) next state))

-- the states after each of the orders
abbrev pub ends_of : List Row → List Tern → List Tern → Tern → List Tern
ends_of rows old new state =
    map (λ order. state_after rows new order old state) (orders_of (changed_inputs old new))

-- their common value; where no input has changed there is one order, which changes nothing
abbrev pub change_of : List Row → List Tern → List Tern → Tern → Tern
change_of rows old new state = common_of_all (ends_of rows old new state)
