use Rattle.std.specs.Prelude.{ℕ, Bool, List}
use Rattle.udp_table.specs.declared.row.Row.{Row}

-- a primitive as its callers see it
pub record Table : Type 0 where
  pub name : List ℕ
  pub sequential : Bool
  pub inputs : ℕ
  pub rows : List Row
