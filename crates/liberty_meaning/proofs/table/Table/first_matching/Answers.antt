use Rattle.std.proofs.Common.{◌≡◌, ◌∙◌, sym, ap, arith, true, false, length}
use Rattle.liberty_meaning.specs.Table.{matches_row}
use Rattle.liberty_meaning.proofs.TableLemmas.{first_here, not_first_here, no_first}
use Rattle.liberty_meaning.proofs.table.Table.first_matching.Goals as goal

pub returns-then-matches_row : goal.returns-then-matches_row
returns-then-matches_row c =
    let e : matches_row c.args.self.now.columns c.args.old.now c.args.new.now c.args.state.now c.row-item.result ≡ true = cc in
    sym (c.loop-row.invariant ∙ first_here _ _ _ _ c.args.self.now.rows c.loop-row.row-index c.row-item.result (omega (arith, ap length c.as_slice-row-items.ensures)) (rw c.as_slice-row-items.ensures at c.row-item.is) e)

pub loop-row-preserved : goal.loop-row-preserved
loop-row-preserved c =
    let e : matches_row c.args.self.now.columns c.args.old.now c.args.new.now c.args.state.now c.row-item.result ≡ false = cc in
    c.loop-row.invariant ∙ not_first_here _ _ _ _ c.args.self.now.rows c.loop-row.row-index c.row-item.result (omega (arith, ap length c.as_slice-row-items.ensures)) (rw c.as_slice-row-items.ensures at c.row-item.is) e

pub returns : goal.returns
returns c = sym (c.loop-row.invariant ∙ no_first _ _ _ _ c.args.self.now.rows c.loop-row.row-index (omega (arith, ap length c.as_slice-row-items.ensures)))
