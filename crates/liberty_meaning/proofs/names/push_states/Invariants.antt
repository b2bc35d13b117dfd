use Rattle.std.proofs.Common.{◌≡◌, ◌++◌, drop}
use Rattle.liberty_meaning.specs.Names as spec
use Rattle.liberty_meaning.proofs.names.push_states.Given as goal

abbrev pub invariant-loop-k : goal.invariant-loop-k
invariant-loop-k l = l.fn.names ++ spec.states_from 0 l.variables ≡ l.names ++ spec.states_from l.k (drop l.k l.variables)
