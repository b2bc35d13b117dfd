use Rattle.std.proofs.Common.{rules, tests, arith, ◌≡◌, ◌∙◌, sym, refl, true, length, nat_le}
use Rattle.std.specs.List.{list_all}
use Rattle.std.proofs.lemmas.Bool.Decides.{nat_tests}
use Rattle.std.proofs.lemmas.Iterator.{YieldsList-from_slice}
use Rattle.std.proofs.lemmas.Iterator.Search.{all_from_yields_List}
use Rattle.verdict_text.specs.WellFormed.{is_finding}
use Rattle.verdict_text.proofs.well_formed.are_findings.Goals as goal

pub returns-then-findings-le-FINDINGS : goal.returns-then-findings-le-FINDINGS
returns-then-findings-le-FINDINGS c =
    let same : c.all.result ≡ list_all is_finding c.args.findings.now =
    all_from_yields_List is_finding _ _ c.all.result c.all.ensures.ran (YieldsList-from_slice c.args.findings.now cc) (λ x b q k. search (rules, tests)) in
    let l = c.if-findings-le-FINDINGS.true in
    let few : nat_le (length c.args.findings.now) 2500 ≡ true = grind (arith, nat_tests) in
    same ∙ sym (rw few refl)
