use Rattle.std.proofs.Common.{◌∙◌, refl, sym, ap, arith}
use Rattle.liberty_function.specs.Compiling.{last_value}
use Rattle.liberty_function.proofs.Running.{first_values-none, fits_here, leads_here, fits_end, leads_end}
use Rattle.liberty_function.proofs.program.run.Goals as goal

pub loop-step-init : goal.loop-step-init
loop-step-init c = record { fits = c.requires; leads = rw first_values-none refl }

pub take-requires : goal.take-requires
take-requires c = (fits_here c.args.steps.now c.loop-step.step-index c.loop-step.stack.held _ c.loop-step-test.true c.loop-step.invariant.fits).0

pub loop-step-preserved : goal.loop-step-preserved
loop-step-preserved c = record {
  fits = rw c.take.ensures.held (fits_here c.args.steps.now c.loop-step.step-index c.loop-step.stack.held _ c.loop-step-test.true c.loop-step.invariant.fits).1;
  leads = rw c.take.ensures.values (c.loop-step.invariant.leads ∙ leads_here _ c.args.steps.now c.loop-step.step-index _ _ c.loop-step-test.true);
}

pub last-requires : goal.last-requires
last-requires c = fits_end c.args.steps.now c.loop-step.step-index c.loop-step.stack.held (omega arith) c.loop-step.invariant.fits

pub returns : goal.returns
returns c = c.last.ensures ∙ ap last_value (sym (c.loop-step.invariant.leads ∙ leads_end _ c.args.steps.now c.loop-step.step-index _ (omega arith)))
