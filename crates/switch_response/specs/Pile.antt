use Rattle.std.specs.Prelude.{ℕ, List}

-- What a stack holds, the last one at the end, and how many it has room for.
pub record Pile : Type 0 where
  pub items : List ℕ
  pub capacity : ℕ
