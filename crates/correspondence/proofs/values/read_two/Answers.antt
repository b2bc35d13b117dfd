use Rattle.std.proofs.Common.{Err, sym, ap, subst, ◌∙◌}
use Rattle.grammar.specs.Reading.{◌>>=◌}
use Rattle.correspondence.specs.Left.{end_left, words_left}
use Rattle.correspondence.specs.Words.{next_values}
use Rattle.correspondence.specs.Steps.{Took}
use Rattle.correspondence.proofs.Taking.{Two, second, took_on, two_behind, two_is, with_first}
use Rattle.correspondence.proofs.values.read_two.Goals as goal

pub returns-in-Err-clause-values : goal.returns-in-Err-clause-values
returns-in-Err-clause-values c =
    let ws = words_left c.args.lines.now in
    let ending = end_left c.args.lines.now in
    let rest = words_left c.read_values.new.lines in
    subst (Took {V = Two} (Err c.in-Err.refusal) rest) (sym (two_is ws ending))
    (took_on c.in-Err.refusal rest rest (next_values ws ending) (second ending) c.in-Err.ensures.values)

pub returns-in-Err-read_values-clause-values : goal.returns-in-Err-read_values-clause-values
returns-in-Err-read_values-clause-values c =
    let us = words_left c.read_values.new.lines in
    let s = end_left c.read_values.new.lines in
    let rest = words_left c.read_values-in-Ok.new.lines in
    subst (Took {V = Two} (Err c.in-Err-read_values.refusal) rest)
    (sym (two_behind (words_left c.args.lines.now) us (end_left c.args.lines.now) s c.in-Ok.first c.in-Ok.ensures.values c.in-Ok.ensures.end))
    (took_on c.in-Err-read_values.refusal rest rest (next_values us s) (with_first c.in-Ok.first) c.in-Err-read_values.ensures.values)

pub returns-in-Ok-read_values-clause-values : goal.returns-in-Ok-read_values-clause-values
returns-in-Ok-read_values-clause-values c =
    two_behind (words_left c.args.lines.now) (words_left c.read_values.new.lines) (end_left c.args.lines.now) (end_left c.read_values.new.lines)
    c.in-Ok.first c.in-Ok.ensures.values c.in-Ok.ensures.end
    ∙ ap (λ r. r >>= with_first c.in-Ok.first) c.in-Ok-read_values.ensures.values
