use Rattle.std.proofs.Common.{arith}
use Rattle.liberty_function.proofs.Running.{first_values-push}
use Rattle.liberty_function.proofs.program.Stack.push.Goals as goal

pub returns-clause-values : goal.returns-clause-values
returns-clause-values c = first_values-push c.args.self.now.values c.args.self.now.held c.args.value (omega arith)
