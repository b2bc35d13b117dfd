use Rattle.std.proofs.Common.{sym, ap, ◌∙◌, refl, ◌+◌, drop}
use Rattle.text_scan.specs.Tokens.{after}
use Rattle.std.proofs.Math.ListN.{drop_of_length-le}
use Rattle.cdl_cards.proofs.Places.{after_more, over_at, after_none}
use Rattle.cdl_cards.proofs.ends.end_of.Goals as goal

pub loop-i-init : goal.loop-i-init
loop-i-init c = record { at = refl; so_far = refl }

pub loop-i-preserved : goal.loop-i-preserved
loop-i-preserved c = record {
  at = ap (λ p. p.at) c.over-place.ensures ∙ over_at _ c.loop-i.place ∙ ap (λ n. n + 1) c.loop-i.invariant.at;
  so_far = ap (λ p. after p (drop (c.loop-i.i + 1) c.args.text.now)) c.over-place.ensures ∙ sym (after_more c.args.text.now c.loop-i.i c.loop-i.place c.loop-i-test.true) ∙ c.loop-i.invariant.so_far;
}

pub returns : goal.returns
returns c = sym (after_none c.loop-i.place) ∙ ap (after c.loop-i.place) (sym (drop_of_length-le c.args.text.now c.loop-i-test.false)) ∙ c.loop-i.invariant.so_far
