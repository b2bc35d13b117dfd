-- A network with its names and supplies, as contracts see it.
use Rattle.std.specs.Prelude.{◌≡◌, ℕ, ◌+◌, List, ◌++◌, All, length}
use Rattle.tern_core.specs.declared.tern.Tern.{Tern}
use Rattle.switch_response.specs.Walks.{Net, IsNet}
use Rattle.switch_response.specs.Spread.{IsWithin}

pub record Network : Type 0 where
  -- the names of the storage nodes, in their order
  pub names : List (List ℕ)
  -- how many input pins there are
  pub pins : ℕ
  -- the values of the supplies
  pub supplies : List Tern
  -- storage nodes first, then input pins, then supplies
  pub net : Net

pub record IsNetwork (w : Network) : Type 0 where
  pub network : IsNet w.net
  pub named : w.net.storage ≡ length w.names
  pub nodes : length w.net.strengths ≡ w.net.storage + (w.pins + length w.supplies)
  pub within : All (IsWithin (length w.net.strengths)) w.net.transistors

-- the values of all nodes: storage nodes, input pins, supplies
abbrev pub all_values : Network → List Tern → List Tern → List Tern
all_values w state pins = state ++ (pins ++ w.supplies)

-- What a scratch is: room for so many nodes, and the last response that was made in it.
pub record Room : Type 0 where
  pub nodes : ℕ
  pub next : List Tern

abbrev pub IsRoomFor : Network → Room → Type 0
IsRoomFor w room = (room.nodes ≡ length w.net.strengths) × (length room.next ≡ w.net.storage)
