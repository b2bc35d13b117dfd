use Rattle.std.proofs.Common.{◌≡◌, ℕ, ◌<◌, ◌≤◌, ◌-◌, false, drop, length}
use Rattle.text_scan.specs.Bytes.{begins_with_pair}
use Rattle.text_scan.proofs.search.until_comment_end.Given as goal

abbrev pub invariant-loop-n : goal.invariant-loop-n
invariant-loop-n l = record {
  within : l.at ≤ length l.text;
  none : (k : ℕ) → k < l.at → begins_with_pair 42 47 (drop k l.text) ≡ false;
}

abbrev pub decreases-loop-n : goal.decreases-loop-n
decreases-loop-n l = length l.text - l.at
