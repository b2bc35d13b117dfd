use Rattle.std.proofs.Common.{◌<◌, length, get_or, ap, ◌∙◌, sym}
use Rattle.udp_table.proofs.RowsOf.{first_bad, one_more}
use Rattle.udp_table.proofs.read.rows.Goals as goal

pub returns-in-None-clause-err : goal.returns-in-None-clause-err
returns-in-None-clause-err c =
    let text = c.args.text.now in
    let inside : c.loop-place.place < length text.rows = rw (sym c.as_slice-bytes-items.ensures) c.loop-place-test.true in
    (c.requires, (c.loop-place.place, first_bad text c.loop-place.place c.loop-place.rows c.in_ok-row.field-0 c.as_bytes.result.now c.bytes-item.result inside c.in-None.is c.in_ok-row.ensures c.as_bytes.ensures (c.bytes-item.is ∙ ap (λ xs. get_or xs c.loop-place.place c.bytes-item.result) c.as_slice-bytes-items.ensures) c.loop-place.invariant, c.row_number.ensures))

pub loop-place-preserved : goal.loop-place-preserved
loop-place-preserved c =
    let text = c.args.text.now in
    let inside : c.loop-place.place < length text.rows = rw (sym c.as_slice-bytes-items.ensures) c.loop-place-test.true in
    one_more text c.loop-place.place c.loop-place.rows c.push.new.self c.in_ok-row.field-0 c.in-Some.row c.as_bytes.result.now c.bytes-item.result inside c.in-Some.is c.in_ok-row.ensures c.as_bytes.ensures (c.bytes-item.is ∙ ap (λ xs. get_or xs c.loop-place.place c.bytes-item.result) c.as_slice-bytes-items.ensures) c.in_ok-push-in-Some.ensures.ok c.loop-place.invariant
