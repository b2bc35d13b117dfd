-- Counts of open groups stay small.
use Rattle.std.specs.Prelude.{◌≤◌, ◌<◌, ◌+◌, ◌^◌}
use Rattle.liberty_statements.specs.declared.machine.Machine.{Machine}

-- the groups that are passed over are among the open ones, and with those that may still be nested they are few
pub record IsBounded (m : Machine) : Type 0 where
  pub passed : m.statements.passed ≤ m.depth
  pub small : m.depth + m.room + 1 < 2 ^ 32
