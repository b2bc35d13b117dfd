use Rattle.std.proofs.Common.{ap, ◌∙◌, refl}
use Rattle.grammar.specs.Reading.{◌>>=◌}
use Rattle.correspondence.specs.Left.{words_left}
use Rattle.correspondence.proofs.Adding.{add_names_fails, add_names_is, named}
use Rattle.correspondence.proofs.parts.Parts.add_names.Goals as goal

pub returns-in-Err-clause-added : goal.returns-in-Err-clause-added
returns-in-Err-clause-added c =
    add_names_fails c.args.limits.now c.args.kind c.args.line (words_left c.args.lines.now) c.args.self.now _ c.in-Err.refusal c.in-Err.ensures.names

pub returns-in-Ok-clause-added : goal.returns-in-Ok-clause-added
returns-in-Ok-clause-added c =
    add_names_is c.args.limits.now c.args.kind c.args.line (words_left c.args.lines.now) c.args.self.now
    ∙ ap (λ r. r >>= named c.args.kind c.args.self.now) c.in-Ok.ensures.names
    ∙ rw c.set_names.ensures refl
