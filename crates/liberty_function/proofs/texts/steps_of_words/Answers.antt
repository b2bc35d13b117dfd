use Rattle.std.proofs.Common.{◌≡◌, ◌∙◌, sym, arith, ap, None, Some}
use Rattle.liberty_function.specs.Compiling.{Standing, taken, standing_of}
use Rattle.liberty_function.specs.Sources.{sources_of}
use Rattle.liberty_function.proofs.Accepts.{after_none, inversions_most}
use Rattle.liberty_function.proofs.TextLemmas.{stuck_here, more_here, whole_after, early_here, made_here, is_else, is_then}
use Rattle.liberty_function.proofs.texts.steps_of_words.Goals as goal

pub loop-placed-init : goal.loop-placed-init
loop-placed-init c = record { after = after_none _ _ c.new-compiler.ensures; short = omega (arith, ap (λ (k : Standing). k.part.inversions) c.new-compiler.ensures) }

pub returns-then-not-branch : goal.returns-then-not-branch
returns-then-not-branch c =
    let e : taken (sources_of c.args.scope.now) (standing_of c.loop-placed.compiler) c.placed-item.result.word ≡ None = is_else _ _ _ c.in_ok-take.ensures c.if-not-branch.true in
    stuck_here (sources_of c.args.scope.now) c.args.words.now c.loop-placed.placed-index c.args.end c.placed-item.result (standing_of c.loop-placed.compiler) c.loop-placed-test.true c.placed-item.is c.loop-placed.invariant.after e

pub loop-placed-preserved : goal.loop-placed-preserved
loop-placed-preserved c =
    let e : taken (sources_of c.args.scope.now) (standing_of c.loop-placed.compiler) c.placed-item.result.word ≡ Some (standing_of c.take.new.self) = is_then _ _ _ c.in_ok-take.ensures c.if-not-branch.false in
    record {
      after = more_here (sources_of c.args.scope.now) c.args.words.now c.loop-placed.placed-index c.placed-item.result (standing_of c.loop-placed.compiler) _ c.loop-placed-test.true c.placed-item.is c.loop-placed.invariant.after e;
      short = omega (arith, inversions_most (sources_of c.args.scope.now) (standing_of c.loop-placed.compiler) (standing_of c.take.new.self) c.placed-item.result.word e);
    }

pub returns-in-Some : goal.returns-in-Some
returns-in-Some c =
    let a = whole_after (sources_of c.args.scope.now) c.args.words.now c.loop-placed.placed-index (standing_of c.loop-placed.compiler) c.loop-placed-test.false c.loop-placed.invariant.after in
    made_here c.args.scope.now _ (standing_of c.loop-placed.compiler) c.in-Some.steps a (sym c.in_ok-steps.ensures ∙ c.in-Some.is)

pub returns-in-None : goal.returns-in-None
returns-in-None c =
    let a = whole_after (sources_of c.args.scope.now) c.args.words.now c.loop-placed.placed-index (standing_of c.loop-placed.compiler) c.loop-placed-test.false c.loop-placed.invariant.after in
    early_here (sources_of c.args.scope.now) c.args.words.now c.args.end (standing_of c.loop-placed.compiler) a (sym c.in_ok-steps.ensures ∙ c.in-None.is)
