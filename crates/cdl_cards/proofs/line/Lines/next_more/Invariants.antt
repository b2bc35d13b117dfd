use Rattle.std.proofs.Common.{◌≡◌, ◌≤◌, length}
use Rattle.cdl_cards.specs.Left.{begun_left, going_left}
use Rattle.cdl_cards.proofs.line.Lines.next_more.Given as goal

abbrev pub invariant-lines : goal.invariant-lines
invariant-lines l = record {
  same : l.after ≡ l.self;
  cards : begun_left l.self ≡ begun_left l.fn.self;
  going : going_left l.self ≡ going_left l.fn.self;
  shorter : length l.self.text.now ≤ length l.fn.self.text.now;
}

abbrev pub decreases-lines : goal.decreases-lines
decreases-lines l = length l.after.text.now
