use Rattle.std.specs.Prelude.{◌≡◌, ◌≤◌, ◌+◌, ◌-◌, ◌^◌, ◌==◌, ℕ, Bool, false, List, Result, OnOk, OnErr, min}
use Rattle.std.specs.List.{list_any}

-- one more, up to the last value of a count
abbrev pub one_more : ℕ → ℕ
one_more n = min (n + 1) (2 ^ 64 - 1)

-- a count is greater than before, or stands at its last value
abbrev pub Rose : ℕ → ℕ → Type 0
Rose before now = one_more before ≤ now

-- the count of faults never falls: it rose where the call failed, and stayed where it didn't
pub record HasCause {T E : Type 0} (before now : ℕ) (result : Result T E) : Type 0 where
  pub later : before ≤ now
  pub failed : OnErr result (Rose before now)
  pub kept : OnOk result (now ≡ before)

-- whether a call is among those that are told to fail, by their numbers
abbrev pub is_among : List ℕ → ℕ → Bool
is_among calls call = list_any (λ told. told == call) calls

-- no call is told to fail
abbrev pub NoneFails : (ℕ → Bool) → Type 0
NoneFails fails = (call : ℕ) → fails call ≡ false
