use Rattle.std.proofs.Common.{◌≡◌, ◌++◌, drop}
use Rattle.std.specs.List.{flat_map}
use Rattle.module_net.specs.Naming as spec
use Rattle.module_net.proofs.naming.add_terminals.Given as goal

abbrev pub invariant-loop-terminal : goal.invariant-loop-terminal
invariant-loop-terminal l = l.names ++ spec.firsts l.names (flat_map spec.terminal_names (drop l.terminal-index l.terminals)) ≡ l.fn.names ++ spec.firsts l.fn.names (flat_map spec.terminal_names l.fn.terminals)
