use Rattle.liberty_function.proofs.Running.{first_values-pop}
use Rattle.liberty_function.proofs.program.Stack.pop.Goals as goal

pub returns-clause-values : goal.returns-clause-values
returns-clause-values c = first_values-pop c.args.self.now.values c.args.self.now.held c.requires.some
