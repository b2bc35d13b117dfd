use Rattle.std.proofs.Common.{◌≡◌, ◌++◌, [], drop}
use Rattle.liberty_tokens.specs.Names.{columns_from}
use Rattle.liberty_tokens.proofs.names.columns.Given as goal

abbrev pub invariant-loop-at : goal.invariant-loop-at
invariant-loop-at l = l.found ++ columns_from l.column.items (drop l.at l.bytes) ≡ columns_from [] l.bytes
