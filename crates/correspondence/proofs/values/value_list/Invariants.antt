use Rattle.std.proofs.Common.{◌≡◌, ◌++◌, drop}
use Rattle.correspondence.specs.Words.{made_values}
use Rattle.correspondence.proofs.values.value_list.Given as goal

abbrev pub invariant-loop-byte : goal.invariant-loop-byte
invariant-loop-byte l = l.values.items ++ made_values (drop l.byte-index l.bytes) ≡ made_values l.bytes
