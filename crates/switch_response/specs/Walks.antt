-- Walks over transistors, and the response that they give.
use Rattle.std.specs.Prelude.{◌≡◌, ℕ, ◌<◌, ◌≤◌, ◌⊎◌, Bool, true, false, IsTrue, List, [], ◌∷◌, Contains, min, length, slice_index, slice_index_or}
use Rattle.tern_core.specs.declared.tern.Tern.{Tern}
use Rattle.tern_core.specs.declared.tern.Tern.TheVariants.{Zero, One, Unknown}
use Rattle.switch_response.specs.declared.transistor.Channel.{Channel}
use Rattle.switch_response.specs.declared.transistor.Channel.TheVariants.{N, P}
use Rattle.switch_response.specs.declared.transistor.Transistor.{Transistor}

-- A network. Storage nodes are numbered first, and input nodes after them.
pub record Net : Type 0 where
  -- how many storage nodes there are
  pub storage : ℕ
  -- the strength of each node: 1 to 3 for storage nodes, 8 for input nodes
  pub strengths : List ℕ
  pub transistors : List Transistor

-- a transistor of a walk, and the node that it leads to
pub record Step : Type 0 where
  pub by : Transistor
  pub to : ℕ

abbrev pub value_at : List Tern → ℕ → Tern
value_at values node = slice_index_or values node Unknown

-- An n transistor is on at gate 1, off at 0 and maybe at X. A p transistor is the reverse.
abbrev pub is_on : Channel → Tern → Bool
is_on N One = true
is_on N Zero = false
is_on N Unknown = false
is_on P Zero = true
is_on P One = false
is_on P Unknown = false

abbrev pub is_passing : Channel → Tern → Bool
is_passing N Zero = false
is_passing N One = true
is_passing N Unknown = true
is_passing P One = false
is_passing P Zero = true
is_passing P Unknown = true

abbrev pub IsOn : List Tern → Transistor → Type 0
IsOn values t = IsTrue (is_on t.channel (value_at values t.gate))

-- on or maybe
abbrev pub IsPassing : List Tern → Transistor → Type 0
IsPassing values t = IsTrue (is_passing t.channel (value_at values t.gate))

-- a transistor leads from its drain to its source and from its source to its drain
abbrev pub Leads : Transistor → ℕ → ℕ → Type 0
Leads t a b = ((t.drain ≡ a) × (t.source ≡ b)) ⊎ ((t.source ≡ a) × (t.drain ≡ b))

-- The steps of a walk stand last step first.
abbrev pub end_of : ℕ → List Step → ℕ
end_of root [] = root
end_of root (s ∷ steps) = s.to

-- the least of its root's and its transistors' strengths
abbrev pub strength : Net → ℕ → List Step → ℕ
strength net root [] = slice_index net.strengths root
strength net root (s ∷ steps) = min (strength net root steps) s.by.strength

-- each transistor is on or maybe, and leads from the last node to a storage node
abbrev pub IsWalk : Net → List Tern → ℕ → List Step → Type 0
IsWalk net values root [] = root < length net.strengths
IsWalk net values root (s ∷ steps) =
    IsWalk net values root steps × Contains net.transistors s.by × IsPassing values s.by × Leads s.by (end_of root steps) s.to × (s.to < net.storage)

abbrev pub IsDefinite : List Tern → List Step → Type 0
IsDefinite values [] = Unit {0}
IsDefinite values (s ∷ steps) = IsDefinite values steps × IsOn values s.by

-- a definite walk that is stronger than this reaches the node
pub record IsReachedAbove (net : Net) (values : List Tern) (node : ℕ) (least : ℕ) : Type 0 where
  pub root : ℕ
  pub steps : List Step
  pub walk : IsWalk net values root steps
  pub definite : IsDefinite values steps
  pub reaches : end_of root steps ≡ node
  pub stronger : least < strength net root steps

-- some node on the walk, the root included, is reached by a definite walk that is stronger than the walk up to that node
abbrev pub IsBlocked : Net → List Tern → ℕ → List Step → Type 0
IsBlocked net values root [] = IsReachedAbove net values root (strength net root [])
IsBlocked net values root (s ∷ steps) = IsBlocked net values root steps ⊎ IsReachedAbove net values s.to (strength net root (s ∷ steps))

-- an unblocked walk from the root to the node
pub record Arrives (net : Net) (values : List Tern) (node : ℕ) (root : ℕ) (steps : List Step) : Type 0 where
  pub walk : IsWalk net values root steps
  pub reaches : end_of root steps ≡ node
  pub unblocked : ¬ (IsBlocked net values root steps)

-- the node has an unblocked walk to it
pub record HasArrival (net : Net) (values : List Tern) (node : ℕ) : Type 0 where
  pub root : ℕ
  pub steps : List Step
  pub arrives : Arrives net values node root steps

abbrev pub AllRootsAt : Net → List Tern → ℕ → Tern → Type 0
AllRootsAt net values node value = (root : ℕ) (steps : List Step) → Arrives net values node root steps → value_at values root ≡ value

-- what a storage node becomes
abbrev pub Becomes : Net → List Tern → ℕ → Tern → Type 0
Becomes net values node One = AllRootsAt net values node One
Becomes net values node Zero = AllRootsAt net values node Zero
Becomes net values node Unknown = ¬ (AllRootsAt net values node One) × ¬ (AllRootsAt net values node Zero)

-- the response: what each storage node becomes, where all nodes have these values
pub record IsResponse (net : Net) (values : List Tern) (next : List Tern) : Type 0 where
  pub count : length next ≡ net.storage
  pub each : (node : ℕ) → node < net.storage → Becomes net values node (value_at next node)

abbrev pub net : ℕ → List ℕ → List Transistor → Net
net storage strengths transistors = record { storage = storage; strengths = strengths; transistors = transistors }

-- what a response asks of a network
pub record IsNet (n : Net) : Type 0 where
  pub storage : n.storage ≤ length n.strengths
  pub positive : (node : ℕ) → node < length n.strengths → 0 < slice_index n.strengths node
  pub strongest : (node : ℕ) → slice_index n.strengths node ≤ 8

-- Storage nodes are joined where transistors between storage nodes lead from one to the other.
abbrev pub IsPartPath : Net → ℕ → List Step → Type 0
IsPartPath n start [] = start < n.storage
IsPartPath n start (s ∷ steps) = IsPartPath n start steps × Contains n.transistors s.by × Leads s.by (end_of start steps) s.to × (s.to < n.storage)

-- two storage nodes are in one part
abbrev pub IsInPartOf : Net → ℕ → ℕ → Type 0
IsInPartOf n a b = (steps : List Step) × IsPartPath n a steps × (end_of a steps ≡ b)

-- each transistor of the node's part has one gate value in both
abbrev pub HasSameGates : Net → ℕ → List Tern → List Tern → Type 0
HasSameGates n node a b = (t : Transistor) (m k : ℕ) → Contains n.transistors t → IsInPartOf n node k → Leads t m k → value_at a t.gate ≡ value_at b t.gate
