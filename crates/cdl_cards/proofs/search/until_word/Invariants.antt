use Rattle.std.proofs.Common.{◌≡◌, ℕ, ◌<◌, false, drop}
use Rattle.text_scan.specs.Bytes.{is_space}
use Rattle.text_scan.specs.Pieces.{ends_run}
use Rattle.cdl_cards.proofs.search.until_word.Given as goal

abbrev pub invariant-loop-i : goal.invariant-loop-i
invariant-loop-i l = (k : ℕ) → k < l.i → (ends_run is_space) (drop k l.text) ≡ false
