use Rattle.csv_records.proofs.Given.{gave}
use Rattle.csv_records.proofs.rows.next_row.Goals as goal

pub returns : goal.returns
returns c =
    λ rows h. gave c.args.reader.now c.read_byte_record.new.self c.in-Ok.found _ rows h (c.in-Ok.ensures.ready h.plain) c.in-Ok.ensures.flexible (c.in-Ok.ensures.reads h.plain h.ready)
