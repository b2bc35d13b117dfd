use Rattle.std.proofs.Common.{◌≡◌, sym, Some, None}
use Rattle.liberty_function.specs.Sources.{source_among}
use Rattle.liberty_meaning.proofs.RowLemmas.{columns_none, columns_step, columns_bad}
use Rattle.liberty_meaning.proofs.table_rows.columns_of.Goals as goal

pub loop-name-init : goal.loop-name-init
loop-name-init c = columns_none _ _ c.new-columns.ensures

pub returns-in-None : goal.returns-in-None
returns-in-None c =
    let e : source_among c.args.inputs.now c.name-item.result ≡ None = rw c.as_bytes.ensures at (sym c.in-None.ensures) in
    columns_bad c.args.inputs.now c.args.names.now c.loop-name.name-index c.name-item.result _ c.loop-name.columns c.loop-name-test.true c.name-item.is c.loop-name.invariant e c.in_ok-copied-in-None.ensures

pub loop-name-preserved : goal.loop-name-preserved
loop-name-preserved c =
    let e : source_among c.args.inputs.now c.name-item.result ≡ Some c.in-Some.source = rw c.as_bytes.ensures at (sym c.in-Some.ensures) in
    columns_step c.args.inputs.now c.args.names.now c.loop-name.name-index c.name-item.result c.loop-name.columns _ c.in-Some.source c.loop-name-test.true c.name-item.is c.loop-name.invariant e c.in_ok-push-in-Some.ensures.ok
