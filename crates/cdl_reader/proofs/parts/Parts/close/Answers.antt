use Rattle.cdl_cards.specs.Left.{card_left}
use Rattle.cdl_reader.specs.Actions.{close}
use Rattle.cdl_reader.proofs.Begins.{closes_so, told_steps}
use Rattle.cdl_reader.proofs.parts.Parts.close.Goals as goal

pub returns-in-Err-clause-closed : goal.returns-in-Err-clause-closed
unfolding close
returns-in-Err-clause-closed c = λ first. told_steps (Unit {0}) c.in-Err.refusal _ _ _ c.in-Err.ensures.end

pub returns-clause-closed : goal.returns-clause-closed
returns-clause-closed c = λ first.
    closes_so c.args.limits.now first (card_left c.args.cards.now) c.args.self.now c.push.new.self c.in_ok-made.field-0 c.replace-part.result c.replace-part.new.dest c.none.result c.in_default.ensures.end
    c.in_ok-push.ensures.ok c.in_ok-made.ensures c.replace-part.ensures.value c.replace-part.ensures.after c.none.ensures
