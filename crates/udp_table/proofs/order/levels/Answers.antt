use Rattle.std.proofs.Common.{◌<◌, length, get_or, ap, sym, ◌∙◌, arith}
use Rattle.std.proofs.Math.ListN.{length-set}
use Rattle.std.proofs.lemmas.List.{get_or_default}
use Rattle.udp_table.proofs.Levels.{levels_in, levels_out}
use Rattle.udp_table.proofs.order.levels.Goals as goal
use Rattle.udp_table.proofs.order.levels.Goals.{then-holds, else-holds}

pub loop-place-preserved : goal.loop-place-preserved
loop-place-preserved c =
    let x = get_or c.args.changed.now c.loop-place.place 0 in
    let inside : x < length c.args.new.now = omega (arith, c.requires.inputs c.loop-place.place 0 c.loop-place-test.true) in
    elim c.if-holds.branch [
      | then-holds w ↦ record {
        room = ap length w.levels-is ∙ length-set _ _ _ ∙ c.loop-place.invariant.room;
        levels = rw w.levels-is (levels_in _ _ _ _ _ _ x _ c.loop-place-test.true (get_or_default _ _ _ _ c.loop-place-test.true) (sym c.holds.ensures ∙ w.if-holds.true) (get_or_default c.args.new.now x _ _ inside) ∙ c.loop-place.invariant.levels);
      }
      | else-holds w ↦ record {
        room = ap length w.levels-is ∙ c.loop-place.invariant.room;
        levels = rw w.levels-is (levels_out _ _ _ _ _ _ x c.loop-place-test.true (get_or_default _ _ _ _ c.loop-place-test.true) (sym c.holds.ensures ∙ w.if-holds.false) ∙ c.loop-place.invariant.levels);
      }
    ]
