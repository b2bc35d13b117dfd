use Rattle.std.proofs.Common.{inl, inr, arith}
use Rattle.report_journal.proofs.Gates.{is_record, no_record}
use Rattle.report_journal.proofs.gate.gate_in.Goals as goal
use Rattle.report_journal.proofs.gate.gate_in.Goals.{then-size-eq0-via-then-size-eq0, then-size-eq0-via-else-size-eq0+then-size-gt-MAX_BLOCK, then-size-eq0-via-else-size-eq0+else-size-gt-MAX_BLOCK+then-left-size}

pub returns-then-size-eq0-clause-there : goal.returns-then-size-eq0-clause-there
returns-then-size-eq0-clause-there c = λ rest left some many same.
    no_record c.args.room.now rest c.args.count c.from_be_bytes-size.result c.told-room c.fits-room many c.if-count-lt5.false same c.if-room-ne1.false c.from_be_bytes-size.ensures
    (elim c.then-size-eq0.branch [
      | then-size-eq0-via-then-size-eq0 w ↦ inl w.if-size-eq0.true
      | then-size-eq0-via-else-size-eq0+then-size-gt-MAX_BLOCK w ↦ inr (inl w.if-size-gt-MAX_BLOCK.true)
      | then-size-eq0-via-else-size-eq0+else-size-gt-MAX_BLOCK+then-left-size w ↦ inr (inr (omega (arith, left)))
    ])

pub returns-clause-there : goal.returns-clause-there
returns-clause-there c = λ rest left some many same.
    is_record c.args.room.now rest c.args.count c.from_be_bytes-size.result c.told-room c.fits-room many c.if-count-lt5.false same c.if-room-ne1.false c.from_be_bytes-size.ensures
    (omega (arith, c.if-size-eq0.false)) c.if-size-gt-MAX_BLOCK.false (omega (arith, left, c.if-left-size.false))
