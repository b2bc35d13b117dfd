use Rattle.std.proofs.Common.{◌≡◌, ℕ, ◌<◌, false, drop}
use Rattle.text_scan.specs.Bytes.{is_blank}
use Rattle.text_scan.specs.Pieces.{ends_run}
use Rattle.text_scan.proofs.search.until_blanks_end.Given as goal

abbrev pub invariant-loop-i : goal.invariant-loop-i
invariant-loop-i l = (k : ℕ) → k < l.i → (ends_run is_blank) (drop k l.text) ≡ false
