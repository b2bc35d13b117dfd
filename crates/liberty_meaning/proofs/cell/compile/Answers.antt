use Rattle.std.proofs.Common.{rules, ◌≡◌, ap, length, Err}
use Rattle.liberty_meaning.proofs.CellLemmas.{means, refused_internals, refused_outputs}
use Rattle.liberty_meaning.proofs.cell.compile.Goals as goal

pub returns-in_err-check_internals : goal.returns-in_err-check_internals
returns-in_err-check_internals c =
    let s : c.from_residual-in_err-check_internals.result ≡ Err c.in_err-check_internals.field-0.0 = search rules in
    rw s (refused_internals c.args.cell.now c.in_ok-state.state c.in_err-check_internals.field-0.0 (rw c.in_ok-scope.ensures at c.in_ok-state.ensures) (rw (c.in_ok-nodes.ensures, c.table_nodes.ensures, c.as_slice-pins.ensures) at c.in_err-check_internals.ensures))

pub returns-in_err-outputs : goal.returns-in_err-outputs
returns-in_err-outputs c =
    let s : c.from_residual-in_err-outputs.result ≡ Err c.in_err-outputs.field-0.0 = search rules in
    rw s (refused_outputs c.args.cell.now c.in_ok-state.state c.in_err-outputs.field-0.0 (rw c.in_ok-scope.ensures at c.in_ok-state.ensures) (rw (c.in_ok-nodes.ensures, c.table_nodes.ensures, c.as_slice-pins.ensures) at c.in_ok-check_internals.ensures) (rw (c.in_ok-scope.ensures, c.in_ok-nodes.ensures, c.table_nodes.ensures, c.as_slice-pins.ensures) at c.in_err-outputs.ensures))

pub returns : goal.returns
returns c =
    means c.args.cell.now _ _ c.in_ok-state.state c.in_ok-outputs.outputs (rw c.as_slice-pins.ensures at c.input_count.ensures) (ap length c.variables.ensures)
    (rw c.in_ok-scope.ensures at c.in_ok-state.ensures) (rw (c.in_ok-nodes.ensures, c.table_nodes.ensures, c.as_slice-pins.ensures) at c.in_ok-check_internals.ensures) (rw (c.in_ok-scope.ensures, c.in_ok-nodes.ensures, c.table_nodes.ensures, c.as_slice-pins.ensures) at c.in_ok-outputs.ensures)
