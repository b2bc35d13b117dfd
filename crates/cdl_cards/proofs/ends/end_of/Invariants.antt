use Rattle.std.proofs.Common.{◌≡◌, drop}
use Rattle.text_scan.specs.Tokens.{after, start}
use Rattle.cdl_cards.proofs.ends.end_of.Given as goal

abbrev pub invariant-loop-i : goal.invariant-loop-i
invariant-loop-i l = record {
  at : l.place.at ≡ l.i;
  so_far : after l.place (drop l.i l.text) ≡ after start l.text;
}
