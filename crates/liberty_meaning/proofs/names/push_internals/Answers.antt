use Rattle.std.proofs.Common.{◌≡◌, ◌∙◌, ◌++◌, sym, ap, true, false}
use Rattle.std.proofs.lemmas.List.{append-nil}
use Rattle.liberty_meaning.specs.Names.{is_direction_internal}
use Rattle.liberty_meaning.proofs.Naming.{internal_here, no_internal_here, internals_end, one_on}
use Rattle.liberty_meaning.proofs.names.push_internals.Goals.{then-is_internal+in_ok-push, else-is_internal}
use Rattle.liberty_meaning.proofs.names.push_internals.Goals as goal

pub loop-pin-preserved : goal.loop-pin-preserved
loop-pin-preserved c =
    elim c.if-is_internal.branch [
      | then-is_internal+in_ok-push w ↦
          let e : is_direction_internal c.pin-item.result.direction ≡ true = cc in
          rw w.names-is (one_on _ c.loop-pin.names _ _ _ (rw (internal_here c.args.nodes.now c.args.pins.now c.loop-pin.pin-index c.pin-item.result c.loop-pin-test.true c.pin-item.is e) at c.loop-pin.invariant) (rw (w.as_bytes.ensures, w.internal_source-source.ensures) at w.in_ok-push.ensures.ok))
      | else-is_internal w ↦
          let e : is_direction_internal c.pin-item.result.direction ≡ false = cc in
          rw w.names-is (rw (no_internal_here c.args.nodes.now c.args.pins.now c.loop-pin.pin-index c.pin-item.result c.loop-pin-test.true c.pin-item.is e) at c.loop-pin.invariant)
    ]

pub returns : goal.returns
returns c = sym (c.loop-pin.invariant ∙ ap (λ k. c.loop-pin.names ++ k) (internals_end c.args.nodes.now c.args.pins.now c.loop-pin.pin-index c.loop-pin-test.false) ∙ append-nil c.loop-pin.names)
