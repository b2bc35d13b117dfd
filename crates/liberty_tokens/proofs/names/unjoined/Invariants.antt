use Rattle.std.proofs.Common.{◌≡◌, ◌++◌, drop, false}
use Rattle.liberty_tokens.specs.Names.{unjoined}
use Rattle.liberty_tokens.proofs.names.unjoined.Given as goal

abbrev pub invariant-loop-at : goal.invariant-loop-at
invariant-loop-at l = l.shown.items ++ unjoined l.joined (drop l.at l.bytes) ≡ unjoined false l.bytes
