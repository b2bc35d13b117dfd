use Rattle.std.proofs.Common.{◌≡◌, ◌-◌, length}
use Rattle.text_scan.specs.Left.{left}
use Rattle.text_scan.proofs.cursor.Cursor.next_token.Given as goal

abbrev pub invariant-loop-self : goal.invariant-loop-self
invariant-loop-self l = record {
  source : l.self.source.now ≡ l.fn.self.source.now;
  so_far : left l.fn.self ≡ left l.self;
}

abbrev pub decreases-loop-self : goal.decreases-loop-self
decreases-loop-self l = length l.self.source.now - l.self.place.at
