use Rattle.liberty_meaning.proofs.TableLemmas.{cut_row}
use Rattle.liberty_meaning.proofs.table_text.cut.Goals as goal

pub returns-in_ok-end_row : goal.returns-in_ok-end_row
returns-in_ok-end_row c bs =
    let h = c.in_ok-end_word.ensures in
    let k = c.in_ok-end_row.ensures in
    cut_row _ _ _ _ _ _ _ _ _ c.args.byte bs c.if-byte-eq44.true h.0 h.1 h.2 k.0 k.1 k.2
