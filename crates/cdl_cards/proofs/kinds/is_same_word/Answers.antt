use Rattle.cdl_cards.specs.Kinds.{is_same_word}
use Rattle.cdl_cards.proofs.Same.{same_test}
use Rattle.cdl_cards.proofs.kinds.is_same_word.Goals as goal

pub returns : goal.returns
unfolding is_same_word
returns c = same_test c.eq_ignore_ascii_case.result _ _ c.eq_ignore_ascii_case.ensures.test
