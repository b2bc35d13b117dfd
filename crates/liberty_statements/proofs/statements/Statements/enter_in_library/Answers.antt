use Rattle.std.proofs.Common.{subst, sym, ap, ◌∙◌, ◌≤◌, ◌<◌, length, arith}
use Rattle.liberty_statements.specs.Does.{Does}
use Rattle.liberty_tokens.specs.Words.{is_cell}
use Rattle.liberty_statements.proofs.Groups.{one_arg}
use Rattle.liberty_statements.proofs.statements.Statements.enter_in_library.Goals as goal

pub returns-clause-does : goal.returns-clause-does
returns-clause-does c =
    let some : 1 ≤ length c.args.self.now.args = rw (← c.as_slice.ensures) (omega arith) in
    let one : length c.args.self.now.args < 2 = rw (← c.as_slice.ensures) (omega arith) in
    let word = ap is_cell (sym c.text.ensures) ∙ sym c.if-is_cell.ensures in
    subst (λ x. Does c.enter_cell.result c.enter_cell.new.self x)
    (sym (one_arg c.args.source.now c.args.limits.now c.args.self.now.args _ c.args.self.now some one word))
    (rw c.as_slice.ensures at c.enter_cell.ensures.does)
