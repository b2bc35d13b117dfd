use Rattle.std.proofs.Common.{arith}
use Rattle.report_journal.proofs.Finding.{size_read}
use Rattle.report_journal.proofs.kept.block_size.Goals as goal

pub returns-clause-size : goal.returns-clause-size
returns-clause-size g c = λ bytes known size r.
    let read = size_read bytes c.read_at.new.room c.args.place size c.in_ok-read_at.field-0 r c.read_at.auto.room (c.in_ok-read_at.ensures.many bytes known) (c.in_ok-read_at.ensures.bytes bytes known) in
    omega (arith, read, r.size_is, r.is_block.1, c.min.ensures, c.from_be_bytes.ensures)
