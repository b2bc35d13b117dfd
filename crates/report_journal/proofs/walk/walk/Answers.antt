use Rattle.std.proofs.Common.{rules, ◌+◌, drop, refl, ◌∙◌, subst, arith}
use Rattle.std.specs.Prelude.{IsErr}
use Rattle.report_journal.specs.Steps.{IsAtGate, IsSmall}
use Rattle.report_journal.proofs.Moments.{untouched_here, untouched_then}
use Rattle.report_journal.proofs.Spending.{spends_none, spends_then, costs_then}
use Rattle.report_journal.proofs.Walking.{walked_none, walked_more, walked_shut, walked_broken, walked_too_many, walked_most}
use Rattle.report_journal.proofs.walk.walk.Goals as goal

pub loop-count-init : goal.loop-count-init
loop-count-init g c = record {
  few = omega arith;
  near = omega arith;
  untouched = untouched_here _ _ _ _ _;
  faults = refl;
  walked = λ bytes known. walked_none bytes (c.requires.some bytes known);
  spends = λ bytes known. spends_none _ _ _ _;
}

pub returns-in_err-at_gate-clause-costs : goal.returns-in_err-at_gate-clause-costs
returns-in_err-at_gate-clause-costs g c = λ bytes known most at_most.
    let w = c.loop-count.invariant.walked bytes known in
    costs_then g.D.Disk.fails g.D.Disk.asked g.D.Disk.most c.args.disk.now c.loop-count.disk c.loop-count.count 0 0 (c.loop-count.invariant.spends bytes known) c.at_gate.new.disk 1 0 0 (most + 1) 0 0
    (IsErr c.at_gate.result) _ (c.at_gate.ensures.costs bytes (c.loop-count.invariant.untouched.bytes ∙ known)) (λ failed. search rules)
    (omega (arith, walked_most bytes c.loop-count.count c.loop-count.place w most at_most)) (omega arith) (omega arith) (omega arith)

pub returns-in-Broken-clause-costs : goal.returns-in-Broken-clause-costs
returns-in-Broken-clause-costs g c = λ bytes known most at_most.
    let w = c.loop-count.invariant.walked bytes known in
    costs_then g.D.Disk.fails g.D.Disk.asked g.D.Disk.most c.args.disk.now c.loop-count.disk c.loop-count.count 0 0 (c.loop-count.invariant.spends bytes known) c.at_gate.new.disk 1 0 0 (most + 1) 0 0
    (IsErr c.at_gate.result) _ (c.at_gate.ensures.costs bytes (c.loop-count.invariant.untouched.bytes ∙ known)) (λ failed. absurd (cc (failed)))
    (omega (arith, walked_most bytes c.loop-count.count c.loop-count.place w most at_most)) (omega arith) (omega arith) (omega arith)

pub returns-in-Shut-clause-costs : goal.returns-in-Shut-clause-costs
returns-in-Shut-clause-costs g c = λ bytes known most at_most.
    let w = c.loop-count.invariant.walked bytes known in
    costs_then g.D.Disk.fails g.D.Disk.asked g.D.Disk.most c.args.disk.now c.loop-count.disk c.loop-count.count 0 0 (c.loop-count.invariant.spends bytes known) c.at_gate.new.disk 1 0 0 (most + 1) 0 0
    (IsErr c.at_gate.result) _ (c.at_gate.ensures.costs bytes (c.loop-count.invariant.untouched.bytes ∙ known)) (λ failed. absurd (cc (failed)))
    (omega (arith, walked_most bytes c.loop-count.count c.loop-count.place w most at_most)) (omega arith) (omega arith) (omega arith)

pub returns-then-count-eq-MAX_BLOCKS-clause-costs : goal.returns-then-count-eq-MAX_BLOCKS-clause-costs
returns-then-count-eq-MAX_BLOCKS-clause-costs g c = λ bytes known most at_most.
    let w = c.loop-count.invariant.walked bytes known in
    costs_then g.D.Disk.fails g.D.Disk.asked g.D.Disk.most c.args.disk.now c.loop-count.disk c.loop-count.count 0 0 (c.loop-count.invariant.spends bytes known) c.at_gate.new.disk 1 0 0 (most + 1) 0 0
    (IsErr c.at_gate.result) _ (c.at_gate.ensures.costs bytes (c.loop-count.invariant.untouched.bytes ∙ known)) (λ failed. absurd (cc (failed)))
    (omega (arith, walked_most bytes c.loop-count.count c.loop-count.place w most at_most)) (omega arith) (omega arith) (omega arith)

pub returns-in-Broken-clause-stuck : goal.returns-in-Broken-clause-stuck
returns-in-Broken-clause-stuck g c = λ bytes known.
    let there = c.in_ok-at_gate.ensures.there bytes (c.loop-count.invariant.untouched.bytes ∙ known) in
    walked_broken bytes _ c.loop-count.place (c.loop-count.invariant.walked bytes known) (subst (IsAtGate (drop c.loop-count.place bytes)) c.in-Broken.is there)

pub returns-in-Shut-clause-ends : goal.returns-in-Shut-clause-ends
returns-in-Shut-clause-ends g c = λ bytes known.
    let there = c.in_ok-at_gate.ensures.there bytes (c.loop-count.invariant.untouched.bytes ∙ known) in
    let w = c.loop-count.invariant.walked bytes known in
    record {
      blocks = w.blocks;
      laid_out = walked_shut bytes _ c.loop-count.place w (subst (IsAtGate (drop c.loop-count.place bytes)) c.in-Shut.is there);
      place_is = w.place_is;
      count_is = w.count_is;
    }

pub returns-then-count-eq-MAX_BLOCKS-clause-stuck :
    goal.returns-then-count-eq-MAX_BLOCKS-clause-stuck
returns-then-count-eq-MAX_BLOCKS-clause-stuck g c = λ bytes known.
    let there = c.in_ok-at_gate.ensures.there bytes (c.loop-count.invariant.untouched.bytes ∙ known) in
    walked_too_many bytes _ c.loop-count.place (c.loop-count.invariant.walked bytes known) c.in-Record.block c.if-count-eq-MAX_BLOCKS.true (subst (IsAtGate (drop c.loop-count.place bytes)) c.in-Record.is there)

pub loop-count-preserved : goal.loop-count-preserved
loop-count-preserved g c = record {
  few = omega arith;
  near = omega (arith, subst IsSmall c.in-Record.is c.in_ok-at_gate.ensures.small);
  untouched = untouched_then _ _ _ _ _ _ _ c.loop-count.invariant.untouched c.at_gate.ensures.untouched;
  faults = c.in_ok-at_gate.ensures.cause.kept ∙ c.loop-count.invariant.faults;
  walked = λ bytes known.
      let there = c.in_ok-at_gate.ensures.there bytes (c.loop-count.invariant.untouched.bytes ∙ known) in
      walked_more bytes _ c.loop-count.place (c.loop-count.invariant.walked bytes known) c.in-Record.block (omega arith) (subst (IsAtGate (drop c.loop-count.place bytes)) c.in-Record.is there);
  spends = λ bytes known.
      let more = c.at_gate.ensures.costs bytes (c.loop-count.invariant.untouched.bytes ∙ known) in
      spends_then _ _ _ _ _ _ _ _ (c.loop-count.invariant.spends bytes known) _ _ _ _ _ _ _ more.spends (omega arith) (omega arith) (omega arith) (omega arith);
}
