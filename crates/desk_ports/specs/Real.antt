use Rattle.std.specs.Prelude.{ℕ, Bool}

-- what contracts see of a shelf of real files
pub record RealShelf : Type 0 where
  pub is_started : Bool
  pub faults : ℕ

-- what contracts see of a real sink
pub record RealSink : Type 0 where
  pub faults : ℕ
