use Rattle.std.proofs.Common.{◌≡◌, true, false, rules, Err}
use Rattle.liberty_meaning.specs.Names.{is_direction_output}
use Rattle.liberty_meaning.proofs.OutputLemmas.{outputs_none, outputs_step, outputs_pass, outputs_refused}
use Rattle.liberty_meaning.proofs.outputs.output_programs.Goals.{then-is_output+in_ok-output_program+in_ok-push, else-is_output}
use Rattle.liberty_meaning.proofs.outputs.output_programs.Goals as goal

pub loop-pin-init : goal.loop-pin-init
loop-pin-init c = outputs_none _ _ _ c.new-programs.ensures

pub returns-in_err-output_program : goal.returns-in_err-output_program
returns-in_err-output_program c =
    let e : is_direction_output c.pin-item.result.direction ≡ true = cc in
    let s : c.from_residual.result ≡ Err c.in_err-output_program.field-0.0 = search rules in
    rw s (outputs_refused _ _ c.args.pins.now c.loop-pin.pin-index c.pin-item.result c.loop-pin.programs c.in_err-output_program.field-0.0 c.loop-pin-test.true c.pin-item.is c.loop-pin.invariant e c.in_err-output_program.ensures)

pub loop-pin-preserved : goal.loop-pin-preserved
loop-pin-preserved c =
    elim c.if-is_output.branch [
      | then-is_output+in_ok-output_program+in_ok-push w ↦
          let e : is_direction_output c.pin-item.result.direction ≡ true = cc in
          outputs_step _ _ c.args.pins.now c.loop-pin.pin-index c.pin-item.result c.loop-pin.programs _ w.in_ok-output_program.field-0 c.loop-pin-test.true c.pin-item.is c.loop-pin.invariant e w.in_ok-output_program.ensures (rw w.programs-is w.in_ok-push.ensures.ok)
      | else-is_output w ↦
          let e : is_direction_output c.pin-item.result.direction ≡ false = cc in
          rw w.programs-is (outputs_pass _ _ c.args.pins.now c.loop-pin.pin-index c.pin-item.result c.loop-pin.programs c.loop-pin-test.true c.pin-item.is c.loop-pin.invariant e)
    ]
