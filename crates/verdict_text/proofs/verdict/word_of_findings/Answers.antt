use Rattle.std.proofs.Common.{rules, tests, ◌≡◌, ◌∙◌, sym, refl, true, false, length, ◌==◌}
use Rattle.std.proofs.lemmas.Iterator.{YieldsList-from_slice}
use Rattle.std.proofs.lemmas.Iterator.Search.{all_from_yields_List}
use Rattle.std.specs.List.{list_all}
use Rattle.verdict_text.specs.Lines.{is_waived}
use Rattle.verdict_text.proofs.verdict.word_of_findings.Goals as goal

pub returns-else-is_empty : goal.returns-else-is_empty
returns-else-is_empty c =
    let same : c.all.result ≡ list_all is_waived c.args.findings.now =
    all_from_yields_List is_waived _ _ c.all.result c.all.ensures.ran (YieldsList-from_slice c.args.findings.now cc) (λ x b q k. search (rules, tests)) in
    let some : (length c.args.findings.now == 0) ≡ false = sym c.is_empty.ensures ∙ c.if-is_empty.false in
    let waived : list_all is_waived c.args.findings.now ≡ true = sym same ∙ c.if-not-all.false in
    rw (waived, some) refl
