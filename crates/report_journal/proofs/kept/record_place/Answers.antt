use Rattle.std.proofs.Common.{◌≡◌, ◌<◌, ◌+◌, ℕ, length, take, ◌∙◌, ap, arith}
use Rattle.report_journal.specs.Image.{plain_head, records}
use Rattle.report_journal.proofs.Finding.{record_there, next_place}
use Rattle.report_journal.proofs.Moments.{untouched_then}
use Rattle.report_journal.proofs.Spending.{spends_then}
use Rattle.report_journal.proofs.kept.record_place.Goals as goal

pub loop-i-preserved : goal.loop-i-preserved
loop-i-preserved g c = record {
  near = omega (arith, c.in_ok-place.ensures.small, c.loop-i.invariant.near);
  untouched = untouched_then _ _ _ _ _ _ _ c.loop-i.invariant.untouched c.block_size.ensures.untouched;
  faults = c.in_ok-place.ensures.cause.kept ∙ c.loop-i.invariant.faults;
  at = λ bytes known key blocks stands few.
      let i = c.loop-i._i in
      let low : i < length blocks = omega (arith, few, c.loop-i-test.true) in
      let at = c.loop-i.invariant.at bytes known key blocks stands few in
      let size = c.in_ok-place.ensures.size bytes (c.loop-i.invariant.untouched.bytes ∙ known) _ (record_there key blocks bytes stands i c.loop-i.place low at) in
      ap (λ (n : ℕ). c.loop-i.place + (5 + n)) size ∙ next_place key blocks bytes stands i c.loop-i.place low at;
  spends = λ bytes known.
      let more = c.block_size.ensures.costs bytes (c.loop-i.invariant.untouched.bytes ∙ known) in
      spends_then _ _ _ _ _ _ _ _ (c.loop-i.invariant.spends bytes known) _ _ _ _ _ _ _ more.spends (omega arith) (omega arith) (omega arith) (omega arith);
}

pub returns-clause-place : goal.returns-clause-place
returns-clause-place g c = λ bytes known key blocks stands few.
    let all : c.loop-i._i ≡ c.args.index = omega arith in
    c.loop-i.invariant.at bytes known key blocks stands few ∙ ap (λ (n : ℕ). 41 + length (records plain_head (take n blocks))) all
