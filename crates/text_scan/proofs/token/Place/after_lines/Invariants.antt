use Rattle.std.proofs.Common.{◌≡◌, ◌≤◌, ◌+◌, ◌-◌, length, drop}
use Rattle.text_scan.specs.Tokens.{after}
use Rattle.text_scan.proofs.token.Place.after_lines.Given as goal

abbrev pub invariant-loop-done : goal.invariant-loop-done
invariant-loop-done l = record {
  within : l.done ≤ length l.bytes;
  at : l.place.at ≡ l.fn.self.at + l.done;
  so_far : after l.fn.self l.fn.bytes ≡ after l.place (drop l.done l.bytes);
}

abbrev pub decreases-loop-done : goal.decreases-loop-done
decreases-loop-done l = length l.bytes - l.done
