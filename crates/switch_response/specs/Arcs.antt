-- The transistors at each node, as the relaxation goes through them.
use Rattle.std.specs.Prelude.{◌≡◌, ℕ, ◌<◌, ◌≤◌, List, [], ◌∷◌, ◌++◌, All, Contains, length, slice_index_or, slice_set}
use Rattle.switch_response.specs.declared.transistor.Transistor.{Transistor}
use Rattle.switch_response.specs.declared.wiring.Arc.{Arc}
use Rattle.switch_response.specs.Walks.{Leads}
use Rattle.switch_response.specs.Spread.{IsWithin}

-- the transistors among storage nodes and input nodes, and how many of both there are
pub record Wires : Type 0 where
  pub transistors : List Transistor
  pub storage : ℕ
  pub nodes : ℕ

-- the arc is the transistor as it is seen from a node that it leads away from
pub record IsArcOf (t : Transistor) (end : ℕ) (x : Arc) : Type 0 where
  pub channel : x.channel ≡ t.channel
  pub gate : x.gate ≡ t.gate
  pub to : x.to ≡ end
  pub strength : x.strength ≡ t.strength

-- a transistor leads from the node to a storage node along the arc
pub record IsArcAt (transistors : List Transistor) (storage node : ℕ) (x : Arc) : Type 0 where
  pub by : Transistor
  pub among : Contains transistors by
  pub leads : Leads by node x.to
  pub stored : x.to < storage
  pub is : IsArcOf by x.to x

-- some arc stands for the transistor that leads to this node
pub record HasArc (arcs : List Arc) (t : Transistor) (to : ℕ) : Type 0 where
  pub arc : Arc
  pub among : Contains arcs arc
  pub is : IsArcOf t to arc

-- a node's arcs are the transistors that lead from it to storage nodes
pub record AreArcsAt (transistors : List Transistor) (storage node : ℕ) (arcs : List Arc) : Type 0 where
  pub each : All (IsArcAt transistors storage node) arcs
  pub whole : (t : Transistor) (to : ℕ) → Contains transistors t → Leads t node to → to < storage → HasArc arcs t to

-- the arcs of all nodes
pub record AreArcs (w : Wires) (lists : List (List Arc)) : Type 0 where
  pub count : length lists ≡ w.nodes
  pub rows : (node : ℕ) → node < w.nodes → AreArcsAt w.transistors w.storage node (slice_index_or lists node [])
  pub storage : w.storage ≤ w.nodes
  pub within : All (IsWithin w.nodes) w.transistors

abbrev pub arc_of : Transistor → ℕ → Arc
arc_of t to = record { channel = t.channel; strength = t.strength; gate = t.gate; to = to }

-- a transistor's arc from one node to another, where that is a storage node
pub record AddsArc (old new : List (List Arc)) (t : Transistor) (start to storage : ℕ) : Type 0 where
  pub inside : to < storage → new ≡ slice_set old start (slice_index_or old start [] ++ arc_of t to ∷ [])
  pub outside : storage ≤ to → new ≡ old

-- its gate and its end are among so many nodes
abbrev pub IsArcWithin : ℕ → Arc → Type 0
IsArcWithin nodes x = (x.gate < nodes) × (x.to < nodes)
