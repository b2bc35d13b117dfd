use Rattle.std.proofs.Common.{◌≡◌, ◌≤◌, ◌<◌, ◌+◌, ◌*◌, inl, length, sym, ◌∙◌, ap, subst, length-append, arith}
use Rattle.std.specs.Prelude.{All}
use Rattle.switch_response.specs.Spread.{Ground, ground, still, room}
use Rattle.switch_response.specs.Relaxing.{AreCovered}
use Rattle.switch_response.proofs.Spreading.{steps_join, steps_length}
use Rattle.switch_response.proofs.Relaxation.{room_most, covered_more, spread_done, all_last, all_front}
use Rattle.switch_response.proofs.relax.spread.Goals as goal

pub nodes-init : goal.nodes-init
nodes-init c =
    let most : room c.args.best.now ≤ 8 * length c.args.best.now = room_most c.args.best.now in
    record {
      steps = still;
      bounded = c.requires.bounded;
      within = λ k d lt. (let h = c.fill.ensures.below k d lt in omega (arith, c.nodes-2.ensures.count, c.requires.best));
      covered = λ a lt. inl (c.fill.ensures.each a (omega (arith, c.nodes-2.ensures.count, c.requires.best)));
      fits = omega (arith, c.fill.ensures.capacity, c.fill.ensures.count, c.nodes-2.ensures.count, c.requires.best, c.requires.room);
      capacity = c.fill.ensures.capacity;
    }

pub leave-requires-clause-node : goal.leave-requires-clause-node
leave-requires-clause-node c =
    let lt : c.in-Some.node < length c.nodes.best = all_last (λ a. a < length c.nodes.best) c.nodes.waiting.items c.pop.new.self.items c.in-Some.node c.in-Some.ensures.items c.nodes.invariant.within in
    omega (arith, c.requires.best)

pub leave-requires-clause-within : goal.leave-requires-clause-within
leave-requires-clause-within c = all_front (λ a. a < length c.nodes.best) c.nodes.waiting.items c.pop.new.self.items c.in-Some.node c.in-Some.ensures.items c.nodes.invariant.within

pub nodes-preserved : goal.nodes-preserved
nodes-preserved c =
    let g : Ground = ground c.args.wiring.now.transistors c.args.wiring.now.storage c.args.values.now c.args.definite c.args.floor.now in
    let long : length c.leave.new.best ≡ length c.nodes.best = steps_length g c.nodes.best c.leave.new.best c.leave.ensures.grows.steps in
    let count : length c.nodes.waiting.items ≡ length c.pop.new.self.items + 1 = ap length c.in-Some.ensures.items ∙ simp length-append in
    record {
      steps = steps_join g _ _ _ c.nodes.invariant.steps c.leave.ensures.grows.steps;
      bounded = c.leave.ensures.grows.bounded;
      within = subst (λ n. All (λ a. a < n) c.leave.new.waiting.items) (sym long) c.leave.ensures.grows.within;
      covered = covered_more g c.nodes.best c.leave.new.best c.pop.new.self.items c.leave.new.waiting.items c.in-Some.node
          (subst (AreCovered g c.nodes.best) c.in-Some.ensures.items c.nodes.invariant.covered) c.leave.ensures.grows c.leave.ensures.idle;
      fits = omega (arith, c.leave.ensures.grows.less, c.nodes.invariant.fits, c.leave.ensures.capacity, c.in-Some.ensures.capacity);
      capacity = c.leave.ensures.capacity ∙ c.in-Some.ensures.capacity ∙ c.nodes.invariant.capacity;
    }

pub returns-clause-spread : goal.returns-clause-spread
returns-clause-spread c =
    let g : Ground = ground c.args.wiring.now.transistors c.args.wiring.now.storage c.args.values.now c.args.definite c.args.floor.now in
    spread_done g c.args.best.now c.nodes.best c.args.wiring.now.nodes c.nodes-2.ensures.within c.requires.best c.nodes.invariant.steps
    (subst (AreCovered g c.nodes.best) c.in_default.ensures.items.0 c.nodes.invariant.covered)
