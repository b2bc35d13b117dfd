use Rattle.std.proofs.Common.{◌≡◌, ◌-◌, ◌*◌, ◌%◌, ◌^◌, get_or, ap, sym, ◌∙◌, arith}
use Rattle.std.proofs.lemmas.List.{get_or_default}
use Rattle.tern_core.specs.declared.tern.Tern.TheVariants.{Zero, Unknown}
use Rattle.udp_table.specs.Subsets.{none, next_states}
use Rattle.udp_table.proofs.Levels.{gathered_in, gathered_out, shifted}
use Rattle.udp_table.proofs.order.reached.Goals as goal
use Rattle.udp_table.proofs.order.reached.Goals.{then-holds, else-holds}

pub loop-place-preserved : goal.loop-place-preserved
loop-place-preserved c =
    let x = get_or c.args.changed.now c.loop-place.place 0 in
    let here : x ≡ get_or c.args.changed.now c.loop-place.place x = get_or_default _ _ _ _ c.loop-place-test.true in
    elim c.if-holds.branch [
      | then-holds w ↦
          let next : w.next_states.result ≡ next_states c.args.rows.now x (get_or c.args.old.now x Unknown) c.args.levels.now (get_or c.args.places.now (c.args.subset - 2 ^ c.loop-place.place) none) = w.next_states.ensures
          ∙ ap (λ v. next_states c.args.rows.now x v c.args.levels.now (get_or c.args.places.now (c.args.subset - 1 * 2 ^ c.loop-place.place % 18446744073709551616) none)) (get_or_default c.args.old.now x Zero Unknown (c.requires.inputs c.loop-place.place 0 c.loop-place-test.true))
          ∙ ap (λ n. next_states c.args.rows.now x (get_or c.args.old.now x Unknown) c.args.levels.now (get_or c.args.places.now (c.args.subset - n) none)) (shifted c.loop-place.place (omega arith)) in
          rw (w.reached-is, w.union-reached.ensures, next) (gathered_in c.args.rows.now c.args.old.now c.args.levels.now c.args.places.now c.args.subset c.args.changed.now c.loop-place.place x c.loop-place-test.true here c.loop-place.reached (sym c.holds.ensures ∙ w.if-holds.true) ∙ c.loop-place.invariant)
      | else-holds w ↦
          rw w.reached-is (gathered_out c.args.rows.now c.args.old.now c.args.levels.now c.args.places.now c.args.subset c.args.changed.now c.loop-place.place x c.loop-place-test.true here c.loop-place.reached (sym c.holds.ensures ∙ w.if-holds.false) ∙ c.loop-place.invariant)
    ]
