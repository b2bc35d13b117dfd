-- Which row of a table covers a state of its cell.
use Rattle.std.specs.Prelude.{◌≡◌, ◌<◌, ◌≤◌, ℕ, List, Option, Some, None, slice_get}
use Rattle.tern_core.specs.declared.tern.Tern.{Tern}
use Rattle.tern_core.specs.Order.{AreAtMost}
use Rattle.table_source.specs.declared.Row.{Row}

-- The row covers these values of pins, of Liberty's state, of primitives and of nodes: the first three are its own, and
-- its nodes are at most as known as these.
pub record Covers (row : Row) (pins liberty udps nodes : List Tern) : Type 0 where
  pub same_pins : row.pins ≡ pins
  pub same_liberty : row.liberty ≡ liberty
  pub same_udps : row.udps ≡ udps
  pub nodes_at_most : AreAtMost row.nodes nodes

-- no row before this place covers them
abbrev pub NoneCoversBefore : ℕ → List Row → List Tern → List Tern → List Tern → List Tern → Type 0
NoneCoversBefore place rows pins liberty udps nodes =
    (j : ℕ) (row : Row) → j < place → slice_get rows j ≡ Some row → Covers row pins liberty udps nodes → ⊥

abbrev pub NoneCovers : List Row → List Tern → List Tern → List Tern → List Tern → Type 0
NoneCovers rows pins liberty udps nodes = (j : ℕ) (row : Row) → slice_get rows j ≡ Some row → Covers row pins liberty udps nodes → ⊥

-- the row at this place covers them, and none before it
pub record CoversFirst (place : ℕ) (rows : List Row) (pins liberty udps nodes : List Tern) : Type 0 where
  pub row : Row
  pub at_place : slice_get rows place ≡ Some row
  pub covers : Covers row pins liberty udps nodes
  pub none_before : NoneCoversBefore place rows pins liberty udps nodes

-- the place of the first row that covers them, counted from 0; none where no row does
abbrev pub IsFirstCover : List Row → List Tern → List Tern → List Tern → List Tern → Option ℕ → Type 0
IsFirstCover rows pins liberty udps nodes (Some place) = CoversFirst place rows pins liberty udps nodes
IsFirstCover rows pins liberty udps nodes None = NoneCovers rows pins liberty udps nodes

-- there is a place, at this one or before it
abbrev pub IsAtOrBefore : ℕ → Option ℕ → Type 0
IsAtOrBefore place (Some k) = k ≤ place
IsAtOrBefore place None = ⊥
