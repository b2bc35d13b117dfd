use Rattle.std.specs.Prelude.{ℕ}

-- what contracts see of a disk over a real file
pub record RealDisk : Type 0 where
  pub faults : ℕ
