use Rattle.std.proofs.Common.{ap, ◌∙◌, refl}
use Rattle.grammar.specs.Reading.{◌>>=◌}
use Rattle.correspondence.specs.Left.{end_left, words_left}
use Rattle.correspondence.proofs.Adding.{add_row_fails, add_row_is, with_row}
use Rattle.correspondence.proofs.parts.Parts.add_row.Goals as goal

pub returns-in-Err-clause-added : goal.returns-in-Err-clause-added
returns-in-Err-clause-added c =
    add_row_fails c.args.line (words_left c.args.lines.now) (end_left c.args.lines.now) c.args.self.now _ c.in-Err.refusal c.in-Err.ensures.row

pub returns-in-Ok-push-clause-added : goal.returns-in-Ok-push-clause-added
returns-in-Ok-push-clause-added c =
    add_row_is c.args.line (words_left c.args.lines.now) (end_left c.args.lines.now) c.args.self.now
    ∙ ap (λ r. r >>= with_row c.args.self.now) c.in-Ok.ensures.row
    ∙ rw c.in-Ok-push.ensures.ok refl
