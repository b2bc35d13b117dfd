use Rattle.std.proofs.Common.{◌∙◌}
use Rattle.correspondence.specs.Left.{placed, words_left}
use Rattle.correspondence.proofs.Adding.{made_more, names_end, names_fail, names_more}
use Rattle.correspondence.proofs.names.read_names.Goals as goal

pub returns-in-Err-clause-names : goal.returns-in-Err-clause-names
returns-in-Err-clause-names c =
    names_fail c.args.limits.now c.args.line (words_left c.args.lines.now) (words_left c.words.lines) (words_left c.next_word.new.self) (placed c.in-Word.word) c.in-Err.refusal
    c.words.invariant.told c.in-Word.ensures.came.0 c.in-Err.ensures

pub words-preserved : goal.words-preserved
words-preserved c =
    let all = words_left c.args.lines.now in
    let ws = words_left c.words.lines in
    let us = words_left c.next_word.new.self in
    record {
      told = names_more c.args.limits.now all ws us (placed c.in-Word.word) c.words.invariant.told c.in-Word.ensures.came.0 c.in_default-check_name.ensures;
      made = made_more all ws us (placed c.in-Word.word) c.words.names c.push.new.self c.in_ok-from_bytes.field-0 c.words.invariant.made c.in-Word.ensures.came.0
          c.in_ok-from_bytes.ensures c.in_ok-push.ensures.ok;
      behind = c.in-Word.ensures.lines ∙ c.words.invariant.behind;
    }

pub returns-clause-names : goal.returns-clause-names
returns-clause-names c =
    names_end c.args.limits.now c.args.line (words_left c.args.lines.now) (words_left c.words.lines) c.words.names c.words.invariant.told c.in_default.ensures.came.0 c.words.invariant.made
