use Rattle.std.proofs.Common.{◌≡◌, length}
use Rattle.cdl_cards.specs.Left.{begun_left}
use Rattle.cdl_cards.proofs.line.Lines.next_begun.Given as goal

abbrev pub invariant-lines : goal.invariant-lines
invariant-lines l = begun_left l.self ≡ begun_left l.fn.self

abbrev pub decreases-lines : goal.decreases-lines
decreases-lines l = length l.self.text.now
