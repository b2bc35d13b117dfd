use Rattle.std.proofs.Common.{◌≡◌, take, Some}
use Rattle.liberty_meaning.specs.TableMeaning.{all_made}
use Rattle.liberty_meaning.proofs.table_rows.made_rows.Given as goal

abbrev pub invariant-loop-i : goal.invariant-loop-i
invariant-loop-i l = all_made l.inputs l.nodes (take l.i l.texts) ≡ Some l.rows
