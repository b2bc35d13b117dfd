use Rattle.std.proofs.Common.{◌≡◌, ◌++◌, drop}
use Rattle.liberty_meaning.specs.TableText as spec
use Rattle.liberty_meaning.proofs.table_text.rows_of_text.Given as goal

abbrev pub invariant-loop-byte : goal.invariant-loop-byte
invariant-loop-byte l = spec.rows_of l.text ≡ l.cutting.rows ++ spec.rows_from l.cutting.row l.cutting.word.items (drop l.byte-index l.text)
