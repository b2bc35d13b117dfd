-- Counts of open parentheses stay small.
use Rattle.std.specs.Prelude.{ℕ, ◌≤◌, ◌<◌, ◌+◌, ◌^◌}
use Rattle.verilog_modules.specs.declared.module_phase.ModulePhase.{ModulePhase}
use Rattle.verilog_modules.specs.declared.module_phase.ModulePhase.TheVariants as phases

-- how many parentheses of a delay are open
abbrev pub open_parentheses : ModulePhase → ℕ
open_parentheses (phases.Delay o depth) = depth
open_parentheses _ = 0

abbrev pub IsBounded : ModulePhase → Type 0
IsBounded p = open_parentheses p + 1 < 2 ^ 64

-- An item can be taken: the module hasn't ended, and in a delay a parenthesis is open, and there are fewer open ones
-- than may be nested.
abbrev pub IsOpen : ℕ → ModulePhase → Type 0
IsOpen n phases.Done = ⊥
IsOpen n (phases.Delay o depth) = (1 ≤ depth) × (depth < n)
IsOpen n _ = 1 ≤ n
