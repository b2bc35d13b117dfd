use Rattle.std.proofs.Common.{rules, tests, ◌∙◌}
use Rattle.std.proofs.lemmas.Iterator.{YieldsList-from_slice}
use Rattle.std.proofs.lemmas.Iterator.Search.{find_from_yields_List}
use Rattle.verdict_text.specs.Told.{is_kind_word}
use Rattle.verdict_text.proofs.Copied.{copied_map}
use Rattle.verdict_text.proofs.told.kind_among.Goals as goal

pub returns : goal.returns
returns c =
    c.copied.ensures ∙ (copied_map c.find.result
    ∙ find_from_yields_List (is_kind_word c.args.word.now) _ _ _ c.find.ensures.ran (YieldsList-from_slice c.args.kinds.now cc) (λ x b q k. search (rules, tests)))
