use Rattle.std.proofs.Common.{◌∙◌}
use Rattle.std.proofs.lemmas.Result.{IfOk-weaker}
use Rattle.udp_table.proofs.RowsOf.{IsFound, row_is_found}
use Rattle.udp_table.proofs.read.row_of.Goals as goal

pub returns : goal.returns
returns c =
    IfOk-weaker _ _ (IsFound c.args.sequential c.args.inputs c.args.bytes.now) (λ found e. row_is_found _ _ _ _ found (c.deref.ensures.value ∙ c.in_ok-letters.ensures) e) c.row.ensures
