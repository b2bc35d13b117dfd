use Rattle.std.proofs.Common.{◌≡◌, ◌+◌, ◌-◌, length, take, drop, length-drop, sym, ap, ◌∙◌, arith, below_more}
use Rattle.std.proofs.lemmas.List.{take_rest}
use Rattle.text_scan.specs.Bytes.{begins_with_pair}
use Rattle.text_scan.proofs.Until.{until-here, until-all, pair-none}
use Rattle.text_scan.proofs.search.until_comment_end.Goals as goal

pub returns-then-begins_with_pair-clause-value : goal.returns-then-begins_with_pair-clause-value
returns-then-begins_with_pair-clause-value c =
    let found = c.in-Some.ensures in
    let high = found.0.high in
    let text = c.args.text.now in
    let len : length (take (length text - c.loop-n.at) (drop c.loop-n.at text)) ≡ length text - c.loop-n.at = ap length (take_rest text c.loop-n.at) ∙ length-drop c.loop-n.at text in
    sym (until-here (begins_with_pair 42 47) text (c.loop-n.at + c.in-Some.n) (omega arith) (pair-none 42 47 text c.loop-n.at c.in-Some.n (omega arith) c.loop-n.invariant.none found.0.before) c.if-begins_with_pair.ensures)

pub loop-n-preserved : goal.loop-n-preserved
loop-n-preserved c =
    let found = c.in-Some.ensures in
    let high = found.0.high in
    let text = c.args.text.now in
    let len : length (take (length text - c.loop-n.at) (drop c.loop-n.at text)) ≡ length text - c.loop-n.at = ap length (take_rest text c.loop-n.at) ∙ length-drop c.loop-n.at text in
    record {
      within = omega arith;
      none = below_more _ _ (pair-none 42 47 text c.loop-n.at c.in-Some.n (omega arith) c.loop-n.invariant.none found.0.before)
          (ap (begins_with_pair 42 47) (sym (take_rest text (c.loop-n.at + c.in-Some.n))) ∙ sym c.if-begins_with_pair.ensures);
    }

pub returns-clause-value : goal.returns-clause-value
returns-clause-value c =
    let text = c.args.text.now in
    let len : length (take (length text - c.loop-n.at) (drop c.loop-n.at text)) ≡ length text - c.loop-n.at = ap length (take_rest text c.loop-n.at) ∙ length-drop c.loop-n.at text in
    sym (until-all (begins_with_pair 42 47) text (c.loop-n.at + (length text - c.loop-n.at)) (omega arith)
    (pair-none 42 47 text c.loop-n.at (length text - c.loop-n.at) (omega arith) c.loop-n.invariant.none (λ k lo hi. c.in_default.ensures k lo (omega arith))))
