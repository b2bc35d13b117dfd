use Rattle.std.proofs.Common.{◌∙◌, refl, arith}
use Rattle.correspondence.specs.Left.{end_left, words_left}
use Rattle.correspondence.proofs.Adding.{begin_fails, begin_full, begin_opens}
use Rattle.correspondence.proofs.parts.Parts.begin.Goals as goal

pub returns-then-limits-len-clause-begun : goal.returns-then-limits-len-clause-begun
returns-then-limits-len-clause-begun c =
    rw c.too_many.ensures (begin_full c.args.limits.now c.args.line (words_left c.args.lines.now) (end_left c.args.lines.now) c.args.self.now (omega arith))

pub returns-in-Err-clause-begun : goal.returns-in-Err-clause-begun
returns-in-Err-clause-begun c =
    begin_fails c.args.limits.now c.args.line (words_left c.args.lines.now) (end_left c.args.lines.now) c.args.self.now _ c.in-Err.refusal (omega arith) c.in-Err.ensures.cell

pub returns-in_ok-from_bytes-in-Ok-clause-begun : goal.returns-in_ok-from_bytes-in-Ok-clause-begun
returns-in_ok-from_bytes-in-Ok-clause-begun c =
    begin_opens c.args.limits.now c.args.line (words_left c.args.lines.now) (end_left c.args.lines.now) c.args.self.now c.in-Ok.cell.now (omega arith)
    c.in-Ok.ensures.cell.0 c.in-Ok.ensures.cell.1
    ∙ rw (c.in_ok-push-in-Ok.ensures.ok, c.of_cell.ensures, c.in_ok-from_bytes-in-Ok.ensures) refl
