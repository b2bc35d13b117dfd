use Rattle.std.proofs.Common.{◌≡◌, ◌∙◌, ◌++◌, sym, ap, arith, true, false}
use Rattle.std.proofs.lemmas.List.{append-nil}
use Rattle.liberty_meaning.specs.Names.{is_direction_input}
use Rattle.liberty_meaning.proofs.Naming.{input_here, no_input_here, inputs_end, one_on}
use Rattle.liberty_meaning.proofs.names.push_inputs.Goals.{then-is_input+in_ok-push, else-is_input}
use Rattle.liberty_meaning.proofs.names.push_inputs.Goals as goal

pub loop-pin-preserved : goal.loop-pin-preserved
loop-pin-preserved c =
    elim c.if-is_input.branch [
      | then-is_input+in_ok-push w ↦
          let e : is_direction_input c.pin-item.result.direction ≡ true = cc in
          record {
            names = rw (w.names-is, w.k-is) (one_on _ c.loop-pin.names _ _ _ (rw (input_here c.loop-pin.k c.args.pins.now c.loop-pin.pin-index c.pin-item.result c.loop-pin-test.true c.pin-item.is e) at c.loop-pin.invariant.names) (rw w.as_bytes.ensures at w.in_ok-push.ensures.ok));
            few = omega (arith, w.k-is, c.loop-pin.invariant.few);
          }
      | else-is_input w ↦
          let e : is_direction_input c.pin-item.result.direction ≡ false = cc in
          record {
            names = rw (w.names-is, w.k-is) (rw (no_input_here c.loop-pin.k c.args.pins.now c.loop-pin.pin-index c.pin-item.result c.loop-pin-test.true c.pin-item.is e) at c.loop-pin.invariant.names);
            few = omega (arith, w.k-is, c.loop-pin.invariant.few);
          }
    ]

pub returns : goal.returns
returns c = sym (c.loop-pin.invariant.names ∙ ap (λ k. c.loop-pin.names ++ k) (inputs_end c.loop-pin.k c.args.pins.now c.loop-pin.pin-index c.loop-pin-test.false) ∙ append-nil c.loop-pin.names)
