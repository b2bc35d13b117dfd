use Rattle.std.proofs.Common.{◌≡◌, ℕ, ◌<◌, false, drop}
use Rattle.text_scan.specs.Pieces.{begins_space}
use Rattle.cdl_cards.proofs.search.until_space.Given as goal

abbrev pub invariant-loop-i : goal.invariant-loop-i
invariant-loop-i l = (k : ℕ) → k < l.i → begins_space (drop k l.text) ≡ false
