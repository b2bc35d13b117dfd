use Rattle.std.proofs.Common.{sym, subst, ◌∙◌, ap}
use Rattle.file_rules.specs.Told.{TellsSome}
use Rattle.correspondence.specs.Left.{end_left, placed, words_left}
use Rattle.correspondence.specs.Words.{first_of, more_refusal}
use Rattle.correspondence.specs.Actions.{new_name_refusal}
use Rattle.correspondence.proofs.Adding.{cell_is, cell_missing, cell_named, tells_first, tells_next}
use Rattle.correspondence.proofs.parts.Parts.read_cell.Goals as goal

pub returns-in-LineEnd-clause-cell : goal.returns-in-LineEnd-clause-cell
returns-in-LineEnd-clause-cell c =
    rw c.at_token.ensures
    (cell_missing c.args.limits.now c.args.self.now.names (words_left c.args.lines.now) (end_left c.args.lines.now) c.in-LineEnd.token
    c.in-LineEnd.ensures.came.0 c.in-LineEnd.ensures.came.1)

pub returns-in-Err-clause-cell : goal.returns-in-Err-clause-cell
returns-in-Err-clause-cell c =
    let us = words_left c.next_word.new.self in
    let w = placed c.in-Word.word in
    subst (TellsSome c.in-Err.refusal)
    (sym (cell_is c.args.limits.now c.args.self.now.names (words_left c.args.lines.now) us w (end_left c.args.lines.now) c.in-Word.ensures.came.0))
    (tells_first c.in-Err.refusal (new_name_refusal c.args.limits.now c.args.self.now.names w) (more_refusal us) c.in-Err.ensures)

pub returns-in-Err-check_end-clause-cell : goal.returns-in-Err-check_end-clause-cell
returns-in-Err-check_end-clause-cell c =
    let us = words_left c.next_word.new.self in
    let w = placed c.in-Word.word in
    subst (TellsSome c.in-Err-check_end.refusal)
    (sym (cell_is c.args.limits.now c.args.self.now.names (words_left c.args.lines.now) us w (end_left c.args.lines.now) c.in-Word.ensures.came.0))
    (tells_next c.in-Err-check_end.refusal (new_name_refusal c.args.limits.now c.args.self.now.names w) (more_refusal us) c.in_default.ensures c.in-Err-check_end.ensures.end)

pub returns-in-Ok-clause-cell : goal.returns-in-Ok-clause-cell
returns-in-Ok-clause-cell c =
    let us = words_left c.next_word.new.self in
    let w = placed c.in-Word.word in (
      cell_is c.args.limits.now c.args.self.now.names (words_left c.args.lines.now) us w (end_left c.args.lines.now) c.in-Word.ensures.came.0
          ∙ ap (λ o. first_of o (more_refusal us)) c.in_default.ensures ∙ c.in-Ok.ensures.end,
      cell_named (words_left c.args.lines.now) us w c.in-Word.ensures.came.0,
    )
