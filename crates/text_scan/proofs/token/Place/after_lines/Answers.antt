use Rattle.std.proofs.Common.{sym, ◌∙◌, arith}
use Rattle.text_scan.proofs.Places.{after_flat_part}
use Rattle.text_scan.proofs.token.Place.after_lines.Goals as goal

pub returns-then-done-n : goal.returns-then-done-n
returns-then-done-n c =
    c.forward.ensures
    ∙ sym (after_flat_part c.args.bytes.now c.loop-done.done c.until_byte-n.result c.loop-done.place (omega arith) c.until_byte-n.ensures.value c.if-done-n.true)
    ∙ sym c.loop-done.invariant.so_far
