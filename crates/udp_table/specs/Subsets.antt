-- How the orders are gone through, by subsets of the changed inputs. `specs/Orders.antt` says what comes out.
use Rattle.std.specs.Prelude.{ℕ, ◌-◌, ◌*◌, ◌/◌, ◌%◌, ◌==◌, Bool, true, false, ◌||◌, List, [], ◌∷◌, slice_index_or, slice_set, if◌then◌else◌}
use Rattle.tern_core.specs.declared.tern.Tern.{Tern}
use Rattle.tern_core.specs.declared.tern.Tern.TheVariants.{Zero, One, Unknown}
use Rattle.udp_table.specs.declared.states.States.{States}
use Rattle.udp_table.specs.declared.row.Row.{Row}
use Rattle.udp_table.specs.Rows.{case_of}
use Rattle.udp_table.specs.Answers.{answer_of}

-- ---- sets of states

abbrev pub has : States → Tern → Bool
has s Zero = s.zero
has s One = s.one
has s Unknown = s.unknown

abbrev pub none : States
none = record { zero = false; one = false; unknown = false }

abbrev pub only : Tern → States
only Zero = record { zero = true; one = false; unknown = false }
only One = record { zero = false; one = true; unknown = false }
only Unknown = record { zero = false; one = false; unknown = true }

abbrev pub union : States → States → States
union s t = record { zero = s.zero || t.zero; one = s.one || t.one; unknown = s.unknown || t.unknown }

-- the one state of the set, else x
abbrev pub common_by : Bool → Bool → Bool → Tern
common_by true false false = Zero
common_by false true false = One
common_by zero one unknown = Unknown

abbrev pub common_state : States → Tern
common_state s = common_by s.zero s.one s.unknown

-- what one state of the set changes to, and what all of them do
abbrev pub next_from : List Row → ℕ → Tern → List Tern → States → Tern → States
next_from rows input old levels states state =
    if has states state then only (answer_of rows (case_of input old levels state)) else none

abbrev pub next_states : List Row → ℕ → Tern → List Tern → States → States
next_states rows input old levels states =
    union (next_from rows input old levels states Zero) (union (next_from rows input old levels states One) (next_from rows input old levels states Unknown))

-- ---- subsets of a list, by number: the lowest bit tells of the first element

abbrev pub members : List ℕ → ℕ → List ℕ
members [] subset = []
members (x ∷ xs) subset = if subset % 2 == 1 then x ∷ members xs (subset / 2) else members xs (subset / 2)

-- the levels after these inputs have taken their new values
abbrev pub levels_after : List ℕ → List Tern → List Tern → List Tern
levels_after [] new levels = levels
levels_after (x ∷ xs) new levels = levels_after xs new (slice_set levels x (slice_index_or new x Unknown))

-- What is reached at a subset from the subsets without one of its inputs. Of the inputs that are left, `left`
-- tells which are in the subset, and `weight` is the number of the subset of the first alone.
abbrev pub gathered : List Row → List Tern → List Tern → List States → ℕ → List ℕ → ℕ → ℕ → States → States
gathered rows old levels places subset [] left weight reached = reached
gathered rows old levels places subset (x ∷ xs) left weight reached =
    gathered rows old levels places subset xs (left / 2) (weight * 2)
    (if left % 2 == 1 then union reached (next_states rows x (slice_index_or old x Unknown) levels (slice_index_or places (subset - weight) none)) else reached)
