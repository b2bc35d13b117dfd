use Rattle.std.proofs.Common.{◌≡◌, ◌-◌, ◌<◌, ℕ, List, ◌∷◌, suc, None, map, drop, length, sym, ◌∙◌, ap, subst, arith, rules}
use Rattle.std.specs.Prelude.{MatchOption, slice_get}
use Rattle.switch_response.specs.NameIndex.{Adds}
use Rattle.switch_response.proofs.NameLists.{drop_at, get_at, seen_more, double_here, double_later}
use Rattle.switch_response.proofs.naming.double_of.Goals as goal

pub loop-place-preserved-then-not-branch : goal.loop-place-preserved-then-not-branch
loop-place-preserved-then-not-branch c =
    let names : List (List ℕ) = map (λ p. p.0) c.args.pins.now in
    let lt : c.loop-place.place - 1 < length c.args.pins.now = omega arith in
    let next : suc (c.loop-place.place - 1) ≡ c.loop-place.place = omega arith in
    let x : List ℕ = c.index-pins-place.result.0 in
    let whole : drop (c.loop-place.place - 1) names ≡ x ∷ drop c.loop-place.place names =
    drop_at (λ p. p.0) c.args.pins.now (c.loop-place.place - 1) c.index-pins-place.result lt c.index-pins-place.is ∙ ap (λ k. x ∷ drop k names) next in
    let adds : Adds c.loop-place.seen c.add.new.self x (c.loop-place.place - 1) c.in_ok-add.field-0 = subst (λ n. Adds c.loop-place.seen c.add.new.self n (c.loop-place.place - 1) c.in_ok-add.field-0) (c.as_bytes.ensures ∙ ap (λ p. p.0) (sym c.index-pins-place.is)) c.in_ok-add.ensures in
    record {
      seen = seen_more x (drop c.loop-place.place names) _ c.loop-place.seen c.add.new.self _ _ whole c.loop-place.invariant.seen adds;
      double = (
        lt,
        double_here x (drop c.loop-place.place names) _ c.loop-place.seen c.add.new.self _ _ (search rules) whole c.loop-place.invariant.seen adds
            ∙ sym (get_at (λ p. p.0) c.args.pins.now (c.loop-place.place - 1) c.index-pins-place.result lt c.index-pins-place.is),
      );
    }

pub loop-place-preserved : goal.loop-place-preserved
loop-place-preserved c =
    let names : List (List ℕ) = map (λ p. p.0) c.args.pins.now in
    let lt : c.loop-place.place - 1 < length c.args.pins.now = omega arith in
    let next : suc (c.loop-place.place - 1) ≡ c.loop-place.place = omega arith in
    let x : List ℕ = c.index-pins-place.result.0 in
    let whole : drop (c.loop-place.place - 1) names ≡ x ∷ drop c.loop-place.place names =
    drop_at (λ p. p.0) c.args.pins.now (c.loop-place.place - 1) c.index-pins-place.result lt c.index-pins-place.is ∙ ap (λ k. x ∷ drop k names) next in
    let adds : Adds c.loop-place.seen c.add.new.self x (c.loop-place.place - 1) c.in_ok-add.field-0 = subst (λ n. Adds c.loop-place.seen c.add.new.self n (c.loop-place.place - 1) c.in_ok-add.field-0) (c.as_bytes.ensures ∙ ap (λ p. p.0) (sym c.index-pins-place.is)) c.in_ok-add.ensures in
    record {
      seen = seen_more x (drop c.loop-place.place names) _ c.loop-place.seen c.add.new.self _ _ whole c.loop-place.invariant.seen adds;
      double = subst (λ d. MatchOption c.loop-place.double (d ≡ None) (λ k. (k < length c.args.pins.now) × (d ≡ slice_get names k)))
          (sym (double_later x (drop c.loop-place.place names) _ c.loop-place.seen c.add.new.self _ _ (search rules) whole c.loop-place.invariant.seen adds)) c.loop-place.invariant.double;
    }
