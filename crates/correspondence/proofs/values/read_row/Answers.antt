use Rattle.std.proofs.Common.{Err, sym, ap, subst, ◌∙◌}
use Rattle.table_source.specs.declared.Row.{Row}
use Rattle.file_rules.specs.Told.{Agrees}
use Rattle.correspondence.specs.Left.{end_left, words_left}
use Rattle.correspondence.specs.Words.{more_refusal, two_values, unless}
use Rattle.correspondence.proofs.Taking.{agrees_on, agrees_unless, last_two, row_behind, row_half, row_is, row_whole, row_with}
use Rattle.correspondence.proofs.values.read_row.Goals as goal

pub returns-in-Err-clause-row : goal.returns-in-Err-clause-row
returns-in-Err-clause-row c =
    let ws = words_left c.args.lines.now in
    let ending = end_left c.args.lines.now in
    subst (Agrees {X = Row} (Err c.in-Err.refusal)) (sym (row_is c.args.line ws ending))
    (agrees_on c.in-Err.refusal (words_left c.read_two.new.lines) (two_values ws ending) (row_behind c.args.line ending) c.in-Err.ensures.values)

pub returns-in-Err-read_two-clause-row : goal.returns-in-Err-read_two-clause-row
returns-in-Err-read_two-clause-row c =
    let us = words_left c.read_two.new.lines in
    let s = end_left c.read_two.new.lines in
    subst (Agrees {X = Row} (Err c.in-Err-read_two.refusal))
    (sym (row_half c.args.line (words_left c.args.lines.now) us (end_left c.args.lines.now) s c.in-Ok.words c.in-Ok.ensures.values c.in-Ok.ensures.end))
    (agrees_on c.in-Err-read_two.refusal (words_left c.read_two-2.new.lines) (two_values us s) (last_two c.args.line c.in-Ok.words) c.in-Err-read_two.ensures.values)

pub returns-in-Err-check_end-clause-row : goal.returns-in-Err-check_end-clause-row
returns-in-Err-check_end-clause-row c =
    let us = words_left c.read_two.new.lines in
    let s = end_left c.read_two.new.lines in
    let vs = words_left c.read_two-2.new.lines in
    let x = row_with c.args.line c.in-Ok.words c.in-Ok-read_two.words in
    subst (Agrees {X = Row} (Err c.in-Err-check_end.refusal))
    (sym (row_whole c.args.line (words_left c.args.lines.now) us vs (end_left c.args.lines.now) s c.in-Ok.words c.in-Ok-read_two.words
    c.in-Ok.ensures.values c.in-Ok.ensures.end c.in-Ok-read_two.ensures.values))
    (agrees_unless c.in-Err-check_end.refusal (more_refusal vs) x c.in-Err-check_end.ensures.end)

pub returns-in-Ok-check_end-clause-row : goal.returns-in-Ok-check_end-clause-row
returns-in-Ok-check_end-clause-row c =
    let us = words_left c.read_two.new.lines in
    let s = end_left c.read_two.new.lines in
    let vs = words_left c.read_two-2.new.lines in
    let x = row_with c.args.line c.in-Ok.words c.in-Ok-read_two.words in
    row_whole c.args.line (words_left c.args.lines.now) us vs (end_left c.args.lines.now) s c.in-Ok.words c.in-Ok-read_two.words
    c.in-Ok.ensures.values c.in-Ok.ensures.end c.in-Ok-read_two.ensures.values
    ∙ ap (λ o. unless o x) c.in-Ok-check_end.ensures.end
