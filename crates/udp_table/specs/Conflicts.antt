-- When the rows of a table contradict each other.
use Rattle.std.specs.Prelude.{◌≡◌, ◌≢◌, ℕ, ◌<◌, Bool, true, false, IsTrue, List, length, slice_index_or, ◌⊎◌}
use Rattle.udp_table.specs.declared.row.Row.{Row}
use Rattle.udp_table.specs.declared.row.Row.TheVariants.{Level, Edge}
use Rattle.udp_table.specs.Rows.{Case, new_of, matches, value_in}

-- What a primitive can be asked: a combinational one about levels of its inputs alone, a sequential one
-- about an input that has changed.
abbrev pub IsCase : Bool → ℕ → Case → Type 0
IsCase false inputs c = length c.levels ≡ inputs
IsCase true inputs c = (length c.levels ≡ inputs) × (c.input < inputs) × (c.old ≢ new_of c)

-- level rows and edge rows are the two classes
abbrev pub AreOfOneClass : Row → Row → Type 0
AreOfOneClass (Level a) (Level b) = Unit {0}
AreOfOneClass (Edge a) (Edge b) = Unit {0}
AreOfOneClass (Level a) (Edge b) = ⊥
AreOfOneClass (Edge a) (Level b) = ⊥

-- two rows of one class match one case and give different values in its state
abbrev pub Conflict : Bool → ℕ → Row → Row → Type 0
Conflict sequential inputs a b =
    AreOfOneClass a b × ((c : Case) × IsCase sequential inputs c × IsTrue (matches a c) × IsTrue (matches b c) × (value_in a c.state ≢ value_in b c.state))

-- the rows at two places, the first before the second
abbrev pub ConflictAt : Bool → ℕ → List Row → ℕ → ℕ → Type 0
ConflictAt sequential inputs rows i j =
    (i < j) × (j < length rows) × ((d : Row) → Conflict sequential inputs (slice_index_or rows i d) (slice_index_or rows j d))

abbrev pub HasNoConflict : Bool → ℕ → List Row → Type 0
HasNoConflict sequential inputs rows = (i j : ℕ) → ConflictAt sequential inputs rows i j → ⊥

-- the first pair, by its first row and then by its second
pub record IsFirstConflict (sequential : Bool) (inputs : ℕ) (rows : List Row) (i j : ℕ) : Type 0 where
  pub here : ConflictAt sequential inputs rows i j
  pub none_before : (k l : ℕ) → (k < i) ⊎ ((k ≡ i) × (l < j)) → ConflictAt sequential inputs rows k l → ⊥
