use Rattle.std.proofs.Common.{◌∙◌, refl}
use Rattle.liberty_function.proofs.Running.{source_program}
use Rattle.liberty_function.proofs.function.Program.of_source.Goals as goal

pub returns : goal.returns
returns c pins state = source_program _ c.args.source (c.in_ok-push.ensures.ok ∙ (rw c.new-steps.ensures refl)) pins state
