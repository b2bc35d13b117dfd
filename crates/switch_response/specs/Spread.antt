-- The strongest walks from given seeds, where each node that they reach has a floor.
use Rattle.std.specs.Prelude.{◌≡◌, ℕ, ◌<◌, ◌≤◌, Bool, true, false, IsTrue, List, [], ◌∷◌, Contains, min, length, slice_index, slice_set, sum_by, ◌-◌}
use Rattle.tern_core.specs.declared.tern.Tern.{Tern}
use Rattle.switch_response.specs.declared.transistor.Channel.{Channel}
use Rattle.switch_response.specs.declared.transistor.Transistor.{Transistor}
use Rattle.switch_response.specs.Walks.{value_at, is_on, is_passing, Step, end_of, Leads}

-- whether a walk may pass a transistor with this gate value; a definite one passes only those that are on
abbrev pub opens : Bool → Channel → Tern → Bool
opens true channel gate = is_on channel gate
opens false channel gate = is_passing channel gate

-- what a spread is about
pub record Ground : Type 0 where
  pub transistors : List Transistor
  pub storage : ℕ
  pub values : List Tern
  pub definite : Bool
  pub floor : List ℕ

abbrev pub Crosses : Ground → Transistor → ℕ → ℕ → Type 0
Crosses g t a b = Contains g.transistors t × IsTrue (opens g.definite t.channel (value_at g.values t.gate)) × Leads t a b × (b < g.storage)

abbrev pub carried : List ℕ → ℕ → List Step → ℕ
carried seeds root [] = slice_index seeds root
carried seeds root (s ∷ steps) = min (carried seeds root steps) s.by.strength

-- each node after the root is reached with at least its floor
abbrev pub IsAdmitted : Ground → List ℕ → ℕ → List Step → Type 0
IsAdmitted g seeds root [] = 0 < slice_index seeds root
IsAdmitted g seeds root (s ∷ steps) =
    IsAdmitted g seeds root steps × Crosses g s.by (end_of root steps) s.to × (slice_index g.floor s.to ≤ carried seeds root (s ∷ steps))

pub record IsReachedWith (g : Ground) (seeds : List ℕ) (node : ℕ) (s : ℕ) : Type 0 where
  pub root : ℕ
  pub steps : List Step
  pub admitted : IsAdmitted g seeds root steps
  pub reaches : end_of root steps ≡ node
  pub carries : carried seeds root steps ≡ s

-- each strength is that of a walk
abbrev pub IsSound : Ground → List ℕ → List ℕ → Type 0
IsSound g seeds best = (node : ℕ) → 0 < slice_index best node → IsReachedWith g seeds node (slice_index best node)

-- best is the strongest for each node, and 0 where there is no walk
pub record IsSpread (g : Ground) (seeds best : List ℕ) : Type 0 where
  pub count : length best ≡ length seeds
  pub sound : IsSound g seeds best
  pub most : (root : ℕ) (steps : List Step) → IsAdmitted g seeds root steps → carried seeds root steps ≤ slice_index best (end_of root steps)

-- a transistor makes one node's strength greater
pub record Improves (g : Ground) (old new : List ℕ) : Type 0 where
  pub by : Transistor
  pub start : ℕ
  pub to : ℕ
  pub crosses : Crosses g by start to
  pub within : to < length old
  pub floor : slice_index g.floor to ≤ min (slice_index old start) by.strength
  pub greater : slice_index old to < min (slice_index old start) by.strength
  pub fits : min (slice_index old start) by.strength ≤ 8
  pub is : new ≡ slice_set old to (min (slice_index old start) by.strength)

pub data Steps (g : Ground) : List ℕ → List ℕ → Type 0 where
  still : {a : List ℕ} → Steps g a a
  then : {a b c : List ℕ} → Steps g a b → Improves g b c → Steps g a c

-- the transistor improves nothing from a to b
abbrev pub IsIdle : Ground → List ℕ → Transistor → ℕ → ℕ → Type 0
IsIdle g best t a b = Crosses g t a b → slice_index g.floor b ≤ min (slice_index best a) t.strength → min (slice_index best a) t.strength ≤ slice_index best b

-- its ends and its gate are among this many nodes
abbrev pub IsWithin : ℕ → Transistor → Type 0
IsWithin nodes t = (t.gate < nodes) × (t.drain < nodes) × (t.source < nodes)

-- how much the strengths can still grow
unfoldable pub room : List ℕ → ℕ
room best = sum_by (λ b. 8 - b) best

abbrev pub ground : List Transistor → ℕ → List Tern → Bool → List ℕ → Ground
ground transistors storage values definite floor = record { transistors = transistors; storage = storage; values = values; definite = definite; floor = floor }
