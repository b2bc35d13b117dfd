use Rattle.std.proofs.Common.{[], sym, ◌∙◌, append-nil}
use Rattle.correspondence.proofs.Orders.{at_end, before_end}
use Rattle.correspondence.proofs.indexing.compare_words.Goals as goal

pub returns-in-Err-behind_word-2 : goal.returns-in-Err-behind_word-2
returns-in-Err-behind_word-2 c =
    let last = rw append-nil at (c.in-Err-behind_word-2.ensures []) in
    sym (c.in-Ok.ensures _ ∙ c.in-Ok-behind_word.ensures _ ∙ last)

pub returns-in-Ok-empty : goal.returns-in-Ok-empty
returns-in-Ok-empty c =
    let last = rw append-nil at (c.in-Ok-empty.ensures []) in
    sym (c.in-Ok.ensures _ ∙ c.in-Ok-behind_word.ensures _ ∙ last ∙ at_end c.in-Ok-empty.field-0.now c.in-Ok-empty.len_below)

pub returns-in-Ok-behind_word-2 : goal.returns-in-Ok-behind_word-2
returns-in-Ok-behind_word-2 c =
    let last = rw append-nil at (c.in-Ok-behind_word-2.ensures []) in
    sym (c.in-Ok.ensures _ ∙ c.in-Ok-behind_word.ensures _ ∙ last ∙ before_end c.in-Ok-behind_word-2.field-0.now c.in-Ok-behind_word-2.len_at_least)
