use Rattle.std.proofs.Common.{◌∙◌, ◌∷◌, [], Result, Err, arith}
use Rattle.text_scan.specs.declared.refusal.FileRefusal.{FileRefusal}
use Rattle.cdl_cards.specs.Left.{card_left}
use Rattle.cdl_reader.proofs.Begins.{begin_full, begin_opens, steps_along}
use Rattle.cdl_reader.proofs.parts.Parts.begin.Goals as goal

pub returns-then-limits-len-clause-begun : goal.returns-then-limits-len-clause-begun
returns-then-limits-len-clause-begun c = λ first. rw c.too_many.ensures (begin_full c.args.limits.now (first ∷ card_left c.args.cards.now) c.args.self.now (omega arith))

pub returns-in-None-clause-begun : goal.returns-in-None-clause-begun
returns-in-None-clause-begun c = λ first. begin_opens c.args.limits.now first (card_left c.args.cards.now) [] c.args.self.now (omega arith) c.in-None.ensures.operand

pub returns-in-Err-clause-begun : goal.returns-in-Err-clause-begun
returns-in-Err-clause-begun c = λ first.
    let r : Result (Unit {0}) FileRefusal = Err c.in-Err.refusal in
    steps_along r c.begin_named.new.self _ _
    (begin_opens c.args.limits.now first (card_left c.args.cards.now) _ c.args.self.now (omega arith) c.in-Some.ensures.operand) c.in-Err.ensures.begun

pub returns-in-Ok-clause-begun : goal.returns-in-Ok-clause-begun
returns-in-Ok-clause-begun c = λ first. begin_opens c.args.limits.now first (card_left c.args.cards.now) _ c.args.self.now (omega arith) c.in-Some.ensures.operand ∙ c.in-Ok.ensures.begun
