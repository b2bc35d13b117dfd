use Rattle.std.proofs.Common.{◌≡◌, length}
use Rattle.cdl_cards.specs.Left.{stray_left}
use Rattle.cdl_cards.proofs.line.Lines.next_stray.Given as goal

abbrev pub invariant-lines : goal.invariant-lines
invariant-lines l = stray_left l.self ≡ stray_left l.fn.self

abbrev pub decreases-lines : goal.decreases-lines
decreases-lines l = length l.self.text.now
