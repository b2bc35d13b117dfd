use Rattle.std.proofs.Common.{◌≡◌, take, Some}
use Rattle.liberty_meaning.specs.TableMeaning.{columns_in}
use Rattle.liberty_meaning.proofs.table_rows.columns_of.Given as goal

abbrev pub invariant-loop-name : goal.invariant-loop-name
invariant-loop-name l = columns_in l.inputs (take l.name-index l.names) ≡ Some l.columns
