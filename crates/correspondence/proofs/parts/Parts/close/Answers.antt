use Rattle.std.proofs.Common.{ap, ◌∙◌, refl}
use Rattle.correspondence.specs.Left.{words_left}
use Rattle.correspondence.specs.Words.{unless}
use Rattle.correspondence.proofs.Adding.{close_fails, close_is, closed}
use Rattle.correspondence.proofs.parts.Parts.close.Goals as goal

pub returns-in-Err-clause-closed : goal.returns-in-Err-clause-closed
returns-in-Err-clause-closed c = close_fails (words_left c.args.lines.now) c.args.self.now _ c.in-Err.refusal c.in-Err.ensures.end

pub returns-clause-closed : goal.returns-clause-closed
returns-clause-closed c =
    close_is (words_left c.args.lines.now) c.args.self.now
    ∙ ap (λ o. unless o (closed c.args.self.now)) c.in_default.ensures.end
    ∙ rw (c.in_ok-push.ensures.ok, c.made.ensures, c.replace-table.ensures.value, c.replace-table.ensures.after, c.none.ensures) refl
