-- Which nets gates drive.
use Rattle.std.specs.Prelude.{◌≡◌, ℕ, ◌<◌, true, List}
use Rattle.gate_settle.specs.declared.gate.Gate.{Gate}
use Rattle.gate_settle.specs.Gates.{is_driven}

-- each net that is driven is one of so many
abbrev pub AreWithin : List Gate → ℕ → Type 0
AreWithin gates nets = (k : ℕ) → is_driven gates k ≡ true → k < nets
