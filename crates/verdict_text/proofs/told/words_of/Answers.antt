use Rattle.std.proofs.Common.{rules, tests, ◌≡◌, map, IfOk, subst}
use Rattle.std.specs.Vec.{vec_items}
use Rattle.std.proofs.lemmas.Iterator.Consumers.{map_from_collect}
use Rattle.std.proofs.lemmas.Iterator.Splits.{YieldsList-from_slice_split}
use Rattle.verdict_text.specs.Told.{words_of}
use Rattle.verdict_text.proofs.told.words_of.Goals as goal

pub returns : goal.returns
returns c =
    let h : IfOk c.collect.result (λ w. map (λ x. x.now) (vec_items w) ≡ words_of c.args.line.now) =
    map_from_collect _ c.collect.ensures.ran
    (YieldsList-from_slice_split _ _ c.args.line.now c.split.ensures.rest c.split.ensures.done c.split.ensures.closure (λ x r q k. search (rules, tests))) in
    subst (λ r. IfOk r (λ w. map (λ x. x.now) (vec_items w) ≡ words_of c.args.line.now)) c.in_ok-collect.was h
