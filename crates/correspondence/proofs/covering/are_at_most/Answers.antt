use Rattle.std.proofs.Common.{◌<◌, length, add-one, arith, rules}
use Rattle.tern_core.specs.declared.tern.Tern.TheVariants.{Unknown}
use Rattle.correspondence.proofs.Ordered.{as_long, parts, whole, ended}
use Rattle.correspondence.proofs.covering.are_at_most.Goals as goal

pub returns-then-left-right : goal.returns-then-left-right
returns-then-left-right c = ((λ e. search rules), (λ h. absurd (c.if-left-right.true (as_long c.args.left.now c.args.right.now h))))

pub loop-i-init : goal.loop-i-init
loop-i-init c = (c.if-left-right.false, ((λ h. h), (λ h. h)))

pub loop-i-preserved : goal.loop-i-preserved
loop-i-preserved c =
    let left = c.args.left.now in
    let right = c.args.right.now in
    let within : c.loop-i.i < length right = omega arith in
    rw add-one (
      c.if-left-right.false,
      (
        (λ h. c.loop-i.invariant.1.0 (whole left right c.loop-i.i _ _ c.loop-i-test.true within (c.if-not-at_most.ensures.0 (search rules)) h)),
        (λ h. (parts left right c.loop-i.i Unknown Unknown c.loop-i-test.true within (c.loop-i.invariant.1.1 h)).1),
      ),
    )

pub returns-then-not-at_most : goal.returns-then-not-at_most
returns-then-not-at_most c =
    let left = c.args.left.now in
    let right = c.args.right.now in
    let within : c.loop-i.i < length right = omega arith in (
      (λ e. search rules),
      (λ h. c.if-not-at_most.ensures.1 (parts left right c.loop-i.i _ _ c.loop-i-test.true within (c.loop-i.invariant.1.1 h)).0),
    )

pub returns : goal.returns
returns c = ((λ e. c.loop-i.invariant.1.0 (ended c.args.left.now c.args.right.now c.loop-i.i (omega arith) (omega arith))), (λ h. search rules))
