use Rattle.std.proofs.Common.{subst, sym, ◌∙◌, arith}
use Rattle.liberty_statements.specs.Does.{Does}
use Rattle.liberty_statements.proofs.Groups.{cell_goes}
use Rattle.liberty_statements.proofs.statements.Statements.enter_cell.Goals as goal

pub returns-clause-does : goal.returns-clause-does
returns-clause-does c =
    subst (λ x. Does c.enter_named_cell.result c.enter_named_cell.new.self x)
    (sym (cell_goes c.args.source.now c.args.limits.now c.args.token c.args.self.now c.as_bytes.result.now (omega arith) (c.as_bytes.ensures ∙ c.in_ok-name.ensures)))
    c.enter_named_cell.ensures.does
