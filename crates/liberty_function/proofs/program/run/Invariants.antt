use Rattle.std.proofs.Common.{◌≡◌, true, [], drop}
use Rattle.liberty_function.specs.Compiling as spec
use Rattle.liberty_function.specs.Sources.{source_value}
use Rattle.liberty_function.proofs.program.run.Given as goal

abbrev pub invariant-loop-step : goal.invariant-loop-step
invariant-loop-step l = record {
  fits : spec.fits (drop l.step-index l.steps) l.stack.held ≡ true;
  leads : spec.after_steps (source_value l.pins l.state) l.steps [] ≡ spec.after_steps (source_value l.pins l.state) (drop l.step-index l.steps) (spec.held_values l.stack);
}
