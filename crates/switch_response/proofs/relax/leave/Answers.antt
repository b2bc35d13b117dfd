use Rattle.std.proofs.Common.{◌≡◌, ◌<◌, ◌+◌, ℕ, true, false, IsTrue, List, length, slice_index, slice_index_or, sym, ◌∙◌, ap, subst, refl, arith}
use Rattle.std.proofs.lemmas.List.{get_or_default}
use Rattle.tern_core.specs.declared.tern.Tern.TheVariants.{Zero, Unknown}
use Rattle.switch_response.specs.declared.transistor.Channel.TheVariants.{N}
use Rattle.switch_response.specs.declared.wiring.Arc.{Arc}
use Rattle.switch_response.specs.Walks.{value_at}
use Rattle.switch_response.specs.Spread.{Ground, ground, opens}
use Rattle.switch_response.specs.Arcs.{IsArcAt}
use Rattle.switch_response.specs.Relaxing.{IsGrown, IsIdleAlong}
use Rattle.switch_response.proofs.Relaxation.{grown_still, grown_carry, idle_more, idle_from}
use Rattle.switch_response.proofs.relax.leave.Goals as goal
use Rattle.switch_response.proofs.relax.leave.Goals.{then-passes, else-passes}

pub loop-arc-init : goal.loop-arc-init
loop-arc-init c = record {
  grown = grown_still _ _ _ c.requires.bounded c.requires.within;
  own = refl;
  idle = λ k d lt. absurd (omega arith);
  capacity = refl;
}

pub loop-arc-preserved : goal.loop-arc-preserved
loop-arc-preserved c =
    let g : Ground = ground c.args.wiring.now.transistors c.args.wiring.now.storage c.args.values.now c.args.definite c.args.floor.now in
    let arcs : List Arc = c.arcs_at-arc-items.result.now in
    let i : ℕ = c.loop-arc.arc-index in
    let d0 : Arc = record { channel = N; strength = 0; gate = 0; to = 0 } in
    let x : Arc = slice_index_or arcs i d0 in
    let inside : i < length arcs = c.loop-arc-test.true in
    let arc : IsArcAt c.args.wiring.now.transistors c.args.wiring.now.storage c.args.node x = c.arcs_at-arc-items.ensures.arcs.each i d0 inside in
    let strength : ℕ = slice_index c.args.best.now c.args.node in
    let gate : x.gate < length c.args.values.now = omega (arith, (c.arcs_at-arc-items.ensures.within i d0 inside).0, (c.arcs_at-arc-items.ensures.within i d0 inside).1, c.requires.values) in
    let read : slice_index_or c.args.values.now x.gate Zero ≡ value_at c.args.values.now x.gate = get_or_default c.args.values.now x.gate Zero Unknown gate in
    elim c.if-passes.branch [
      | then-passes w ↦
          let opened : IsTrue (opens c.args.definite x.channel (value_at c.args.values.now x.gate)) = sym (ap (opens c.args.definite x.channel) read) ∙ sym c.passes.ensures ∙ w.if-passes.true in
          let r = grown_carry g c.args.best.now c.args.waiting.now.items c.args.node strength c.loop-arc.best w.carry.new.best c.loop-arc.waiting.items w.carry.new.waiting.items x arc opened
          (omega (arith, (c.arcs_at-arc-items.ensures.within i d0 inside).1, c.requires.best)) (c.requires.bounded c.args.node 0 (omega (arith, c.requires.node, c.requires.best))) c.loop-arc.invariant.own c.loop-arc.invariant.grown w.carry.ensures.carried in
          record {
            grown = subst (λ b. IsGrown g c.args.best.now b c.args.waiting.now.items c.if-passes.waiting.items) (sym w.best-is) (subst (λ s. IsGrown g c.args.best.now w.carry.new.best c.args.waiting.now.items s.items) (sym w.waiting-is) r.0);
            own = ap (λ b. slice_index b c.args.node) w.best-is ∙ r.1;
            idle = subst (λ b. (k : ℕ) (d : Arc) → k < i + 1 → IsIdleAlong g b strength (slice_index_or arcs k d)) (sym w.best-is)
                (idle_more g strength c.loop-arc.best w.carry.new.best arcs i d0 inside r.2 c.loop-arc.invariant.idle r.3);
            capacity = ap (λ s. s.capacity) w.waiting-is ∙ w.carry.ensures.capacity ∙ c.loop-arc.invariant.capacity;
          }
      | else-passes w ↦
          let closed : IsTrue (opens c.args.definite x.channel (value_at c.args.values.now x.gate)) → ⊥ = λ o. (let e : false ≡ true = sym (sym c.passes.ensures ∙ w.if-passes.false) ∙ ap (opens c.args.definite x.channel) read ∙ o in cc) in
          record {
            grown = subst (λ b. IsGrown g c.args.best.now b c.args.waiting.now.items c.if-passes.waiting.items) (sym w.best-is) (subst (λ s. IsGrown g c.args.best.now c.loop-arc.best c.args.waiting.now.items s.items) (sym w.waiting-is) c.loop-arc.invariant.grown);
            own = ap (λ b. slice_index b c.args.node) w.best-is ∙ c.loop-arc.invariant.own;
            idle = subst (λ b. (k : ℕ) (d : Arc) → k < i + 1 → IsIdleAlong g b strength (slice_index_or arcs k d)) (sym w.best-is)
                (idle_more g strength c.loop-arc.best c.loop-arc.best arcs i d0 inside (λ a. omega arith) c.loop-arc.invariant.idle (λ o f. absurd (closed o)));
            capacity = ap (λ s. s.capacity) w.waiting-is ∙ c.loop-arc.invariant.capacity;
          }
    ]

pub returns-clause-idle : goal.returns-clause-idle
returns-clause-idle c =
    let g : Ground = ground c.args.wiring.now.transistors c.args.wiring.now.storage c.args.values.now c.args.definite c.args.floor.now in
    idle_from g c.loop-arc.best c.args.node (slice_index c.args.best.now c.args.node) c.arcs_at-arc-items.result.now c.arcs_at-arc-items.ensures.arcs c.loop-arc.invariant.own
    (λ k d lt. c.loop-arc.invariant.idle k d (omega (arith, c.loop-arc-test.false)))
