use Rattle.std.proofs.Common.{refl}
use Rattle.liberty_function.proofs.Running.{first_values-one}
use Rattle.liberty_function.proofs.program.Stack.last.Goals as goal

pub returns : goal.returns
returns c = rw (first_values-one c.args.self.now.values c.args.self.now.held c.requires) refl
