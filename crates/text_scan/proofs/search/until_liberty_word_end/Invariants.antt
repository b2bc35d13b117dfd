use Rattle.std.proofs.Common.{◌≡◌, ℕ, ◌<◌, false, drop}
use Rattle.text_scan.specs.Pieces.{ends_liberty_word}
use Rattle.text_scan.proofs.search.until_liberty_word_end.Given as goal

abbrev pub invariant-loop-i : goal.invariant-loop-i
invariant-loop-i l = (k : ℕ) → k < l.i → ends_liberty_word (drop k l.text) ≡ false
