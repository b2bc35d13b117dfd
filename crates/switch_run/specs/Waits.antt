-- Waits between changes of the pins.
use Rattle.std.specs.Prelude.{◌≡◌, ℕ, zero, suc, ◌<◌, List}
use Rattle.tern_core.specs.declared.tern.Tern.{Tern}
use Rattle.switch_response.specs.Walks.{Net, IsResponse}
use Rattle.switch_response.specs.Network.{Network, all_values}
use Rattle.switch_response.specs.Differences.{IsFirstDifference}
use Rattle.switch_run.specs.declared.waiting.Rest.{Rest}
use Rattle.switch_run.specs.declared.waiting.Rest.TheVariants.{Settled, Moving}

-- The second state comes so many responses after the first, with fixed pins.
pub data Waits (w : Network) (pins : List Tern) : ℕ → List Tern → List Tern → Type 0 where
  none : {a : List Tern} → Waits w pins 0 a a
  more : {k : ℕ} {a b c : List Tern} → Waits w pins k a b → IsResponse w.net (all_values w b pins) c → Waits w pins (suc k) a c

-- what a wait tells, where next is the response of the state that it ends in
abbrev pub Tells : Network → List Tern → List Tern → Rest → Type 0
Tells w last next Settled = next ≡ last
Tells w last next (Moving node) = (node < w.net.storage) × IsFirstDifference last next node

-- a wait that ends in this state tells of one response more
pub record Ends (w : Network) (pins last : List Tern) (rest : Rest) : Type 0 where
  pub next : List Tern
  pub response : IsResponse w.net (all_values w last pins) next
  pub tells : Tells w last next rest
