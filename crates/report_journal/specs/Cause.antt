-- When opening a journal failed.
use Rattle.std.specs.Prelude.{◌≡◌, ◌≤◌, ℕ, Result, IsErrOf}
use Rattle.desk_ports.specs.Faults.{Rose}
use Rattle.report_journal.specs.declared.opening.OpenError.{OpenError}
use Rattle.report_journal.specs.declared.opening.OpenError.TheVariants.{Failed}

abbrev pub IsFailed : {T : Type 0} → Result T OpenError → Type 0
IsFailed result = IsErrOf result Failed

-- the count of faults rose where the answer is that the disk failed, and stayed where it isn't
pub record HasOpenCause {T : Type 0} (before now : ℕ) (result : Result T OpenError) : Type 0 where
  pub later : before ≤ now
  pub failed : IsFailed result → Rose before now
  pub kept : (IsFailed result → ⊥) → now ≡ before
