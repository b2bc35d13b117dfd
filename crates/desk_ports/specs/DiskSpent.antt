use Rattle.std.specs.Prelude.{◌≡◌, ◌≤◌, ◌+◌, ℕ, Bool, max}
use Rattle.desk_ports.specs.Faults.{NoneFails}
use Rattle.desk_ports.specs.declared.disk_asked.DiskAsked.{DiskAsked}

-- no call is told to fail, and there is room for so many calls, so many bytes in all, and this end
pub record HasRoom {D : Type 0} (fails : D → ℕ → Bool) (asked most : D → DiskAsked) (disk : D) (calls bytes end : ℕ) : Type 0 where
  pub none_fails : NoneFails (fails disk)
  pub calls_fit : (asked disk).calls + calls ≤ (most disk).calls
  pub bytes_fit : (asked disk).written + bytes ≤ (most disk).written
  pub end_fits : end ≤ (most disk).end

-- at most so many calls were made, so many bytes written, and no byte past this end
pub record Spends {D : Type 0} (fails : D → ℕ → Bool) (asked most : D → DiskAsked) (old new : D) (calls bytes end : ℕ) : Type 0 where
  pub fails_stay : fails new ≡ fails old
  pub most_stays : most new ≡ most old
  pub calls_within : (asked new).calls ≤ (asked old).calls + calls
  pub bytes_within : (asked new).written ≤ (asked old).written + bytes
  pub end_within : (asked new).end ≤ max (asked old).end end

-- and where there was room for that, nothing failed
pub record Costs {D : Type 0} (fails : D → ℕ → Bool) (asked most : D → DiskAsked) (old new : D) (calls bytes end : ℕ) (failed : Type 0) : Type 0 where
  pub spends : Spends fails asked most old new calls bytes end
  pub succeeds : HasRoom fails asked most old calls bytes end → failed → ⊥
