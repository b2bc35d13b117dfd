use Rattle.std.proofs.Common.{◌≡◌, ◌<◌, length, sym, ◌∙◌, arith}
use Rattle.std.proofs.lemmas.Result.{IfOk-weaker}
use Rattle.std.proofs.lemmas.Bool.Decides.{nat_tests}
use Rattle.std.specs.Option.{option_copied}
use Rattle.cell_compare.specs.Compare as spec
use Rattle.cell_compare.proofs.Stepping.{pins_found, pins_equal, few_named}
use Rattle.cell_compare.proofs.judging.over_views.Goals as goal

pub returns-then-len-gt0 : goal.returns-then-len-gt0
returns-then-len-gt0 c =
    let some : 0 < length c.in_ok-findings.findings = grind (arith, nat_tests, c.if-len-gt0.true, c.len.ensures) in
    pins_found c.args.cell.now (option_copied c.args.module) c.args.models.now.primitives c.in_ok-views.views c.in_ok-pin_findings.field-0.items c.in_ok-findings.findings
    c.in_ok-views.ensures (sym c.have_many_pins.ensures ∙ c.if-have_many_pins.false) c.in_ok-pin_findings.ensures c.in_ok-findings.ensures some

pub over_module-requires-clause-outputs : goal.over_module-requires-clause-outputs
over_module-requires-clause-outputs c =
    few_named c.args.cell.now (option_copied c.args.module) c.args.models.now.primitives c.in_ok-views.views c.in_ok-pin_findings.field-0.items c.in_ok-findings.findings
    c.in_ok-views.ensures (sym c.have_many_pins.ensures ∙ c.if-have_many_pins.false)

pub returns : goal.returns
returns c =
    let none : length c.in_ok-findings.findings ≡ 0 = grind (arith, nat_tests, c.if-len-gt0.false, c.len.ensures) in
    IfOk-weaker c.over_module.result _ (spec.IsOverViews c.args.cell.now (option_copied c.args.module) c.args.models.now.primitives)
    (λ k h. pins_equal c.args.cell.now (option_copied c.args.module) c.args.models.now.primitives c.in_ok-views.views c.in_ok-pin_findings.field-0.items c.in_ok-findings.findings k
    c.in_ok-views.ensures (sym c.have_many_pins.ensures ∙ c.if-have_many_pins.false) c.in_ok-pin_findings.ensures c.in_ok-findings.ensures none h)
    c.over_module.ensures
