use Rattle.std.proofs.Common.{◌≡◌, ◌+◌, ◌-◌, length, take, drop, length-drop, refl, sym, ap, subst, ◌∙◌, arith}
use Rattle.std.proofs.lemmas.List.{take_rest}
use Rattle.text_scan.specs.declared.token.Style.TheVariants.{Verilog}
use Rattle.text_scan.specs.Jumps.{forward}
use Rattle.text_scan.specs.Left.{tokens_at}
use Rattle.verilog_directives.specs.Skims.{Skims, IsBlank, IsToken}
use Rattle.verilog_directives.proofs.Skimmed.{counted_after, counted_after_line, begins_here, on_blank, on_line, on_token}
use Rattle.verilog_directives.proofs.skim.skimmed.Goals as goal

pub loop-at-preserved-in-Line : goal.loop-at-preserved-in-Line
loop-at-preserved-in-Line c =
    let source = c.args.source.now in
    let l = c.loop-at in
    let p = c.forward-in-Line in
    let q = c.next_line-begun in
    let before = l.invariant.begun in
    let here = ap (λ z. z.at) p.ensures in
    let there = ap (λ z. z.at) q.ensures in
    let column = ap (λ z. z.column) q.ensures in
    let at : q.result.at ≡ l.at + 1 = omega arith in
    let skims : Skims source c.args.line (tokens_at Verilog source c.args.from) (tokens_at Verilog source q.result)
    = on_line source c.args.line _ l.begun l.at before l.invariant.skims p.result q.result c.in-Line.ensures p.ensures q.ensures in
    let same : forward (l.at + 1 - q.result.at) q.result ≡ q.result = ap (λ z. forward (z - q.result.at) q.result) (sym at) ∙ begins_here q.result (omega arith) in
    let test = c.loop-at-test.true in
    record {
      skims = subst (λ z. Skims source c.args.line (tokens_at Verilog source c.args.from) (tokens_at Verilog source z)) (sym same) skims;
      counted = λ from. counted_after_line p.result q.result (counted_after l.begun p.result (l.at - l.begun.at) (l.invariant.counted from) p.ensures) q.ensures;
      begun = omega arith;
      within = omega arith;
    }

pub loop-at-preserved-in-Blank : goal.loop-at-preserved-in-Blank
loop-at-preserved-in-Blank c =
    let source = c.args.source.now in
    let l = c.loop-at in
    let is : IsBlank (take (length source - l.at) (drop l.at source)) c.in-Blank.n = c.in-Blank.ensures in
    let len : length (take (length source - l.at) (drop l.at source)) ≡ length source - l.at = ap length (take_rest source l.at) ∙ length-drop l.at source in
    let within = is.within in
    let before = l.invariant.begun in
    let test = c.loop-at-test.true in
    record {
      skims = on_blank source c.args.line _ l.begun l.at before l.invariant.skims c.in-Blank.n (l.at + c.in-Blank.n) is refl;
      counted = l.invariant.counted;
      begun = omega arith;
      within = omega arith;
    }

pub loop-at-preserved : goal.loop-at-preserved
loop-at-preserved c =
    let source = c.args.source.now in
    let l = c.loop-at in
    let is : IsToken (take (length source - l.at) (drop l.at source)) c.in-Token.n = c.in-Token.ensures in
    let len : length (take (length source - l.at) (drop l.at source)) ≡ length source - l.at = ap length (take_rest source l.at) ∙ length-drop l.at source in
    let within = is.within in
    let before = l.invariant.begun in
    let test = c.loop-at-test.true in
    record {
      skims = on_token source c.args.line _ l.begun l.at before l.invariant.skims c.in-Token.n (l.at + c.in-Token.n) is c.if-begun-line.true refl;
      counted = l.invariant.counted;
      begun = omega arith;
      within = omega arith;
    }
