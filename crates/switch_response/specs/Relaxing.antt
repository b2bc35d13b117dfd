-- One step of a spread after the other: nodes wait until their strength was carried along their arcs.
use Rattle.std.specs.Prelude.{◌≡◌, ℕ, ◌<◌, ◌≤◌, ◌+◌, ◌⊎◌, List, [], ◌∷◌, ◌++◌, All, Contains, IsTrue, min, length, slice_index, slice_set}
use Rattle.switch_response.specs.declared.transistor.Transistor.{Transistor}
use Rattle.switch_response.specs.declared.wiring.Arc.{Arc}
use Rattle.switch_response.specs.Walks.{value_at}
use Rattle.switch_response.specs.Spread.{Ground, opens, Steps, IsIdle, room}

-- the node at an arc's end gets stronger, and waits
abbrev pub Carries : List ℕ → ℕ → Arc → List ℕ → List ℕ → List ℕ → List ℕ → Type 0
Carries floor strength x old waited new waits =
    (slice_index floor x.to ≤ min strength x.strength) × (slice_index old x.to < min strength x.strength)
    × (new ≡ slice_set old x.to (min strength x.strength)) × (waits ≡ waited ++ x.to ∷ [])

-- the arc carries nothing that is stronger
abbrev pub Stays : List ℕ → ℕ → Arc → List ℕ → List ℕ → List ℕ → List ℕ → Type 0
Stays floor strength x old waited new waits =
    (new ≡ old) × (waits ≡ waited) × (slice_index floor x.to ≤ min strength x.strength → min strength x.strength ≤ slice_index old x.to)

-- Strengths have grown by steps, and each node whose strength grew waits.
pub record IsGrown (g : Ground) (old new : List ℕ) (waited waits : List ℕ) : Type 0 where
  pub steps : Steps g old new
  pub bounded : All (λ b. b ≤ 8) new
  pub within : All (λ a. a < length old) waits
  pub less : length waits + room new ≤ length waited + room old
  pub raised : (a : ℕ) → (slice_index new a ≡ slice_index old a) ⊎ Contains waits a
  pub kept : (a : ℕ) → Contains waited a → Contains waits a

-- a node of this strength improves nothing along the arc
abbrev pub IsIdleAlong : Ground → List ℕ → ℕ → Arc → Type 0
IsIdleAlong g best strength x =
    IsTrue (opens g.definite x.channel (value_at g.values x.gate)) → slice_index g.floor x.to ≤ min strength x.strength → min strength x.strength ≤ slice_index best x.to

-- nothing that leads away from the node improves another
abbrev pub IsIdleFrom : Ground → List ℕ → ℕ → Type 0
IsIdleFrom g best a = (t : Transistor) (b : ℕ) → IsIdle g best t a b

-- each node waits or is idle
abbrev pub AreCovered : Ground → List ℕ → List ℕ → Type 0
AreCovered g best waits = (a : ℕ) → a < length best → Contains waits a ⊎ IsIdleFrom g best a
