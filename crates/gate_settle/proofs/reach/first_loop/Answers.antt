use Rattle.std.proofs.Common.{◌≡◌, ℕ, List, true, false, map, length, sym, ◌∙◌, ap, subst, arith}
use native.Mathlib.Decide.{dec_lt}
use Rattle.gate_settle.specs.Order.{DependsOn}
use Rattle.gate_settle.specs.Search.{IsTold, visit_at, is_on_loop}
use Rattle.gate_settle.proofs.Feeding.{told_true, told_false, depends_of, reaches_of}
use Rattle.gate_settle.proofs.reach.first_loop.Goals as goal

pub returns-then-is_on_loop : goal.returns-then-is_on_loop
returns-then-is_on_loop c =
    let rows : List (List ℕ) = map (λ v. v.items) c.in_ok-rows.rows.items in
    let n : ℕ = c.loop-net.net in
    let same : length c.deref.result.now ≡ c.args.nets = ap length c.deref.ensures.value ∙ c.in_ok-rows.ensures.count in
    let told : IsTold rows n (visit_at c.in_ok-visits.visits.items n) = subst (λ rs. IsTold (map (λ v. v.items) rs) n (visit_at c.in_ok-visits.visits.items n)) c.deref.ensures.value (c.in_ok-visits.ensures.told n (omega (arith, same, c.loop-net-test.true))) in
    let found : is_on_loop (visit_at c.in_ok-visits.visits.items n) ≡ true = sym (c.is_on_loop.ensures ∙ ap (λ vs. is_on_loop (visit_at vs n)) c.deref-in-loop-net.ensures.value) ∙ c.if-is_on_loop.true in
    (c.loop-net-test.true, depends_of rows c.args.gates.now (λ a b. c.in_ok-rows.ensures.edges a b) n n (told_true rows n (visit_at c.in_ok-visits.visits.items n) told found), c.loop-net.invariant)

pub loop-net-preserved : goal.loop-net-preserved
loop-net-preserved c k lt d =
    let rows : List (List ℕ) = map (λ v. v.items) c.in_ok-rows.rows.items in
    let n : ℕ = c.loop-net.net in
    let same : length c.deref.result.now ≡ c.args.nets = ap length c.deref.ensures.value ∙ c.in_ok-rows.ensures.count in
    let told : IsTold rows n (visit_at c.in_ok-visits.visits.items n) = subst (λ rs. IsTold (map (λ v. v.items) rs) n (visit_at c.in_ok-visits.visits.items n)) c.deref.ensures.value (c.in_ok-visits.ensures.told n (omega (arith, same, c.loop-net-test.true))) in
    let none : is_on_loop (visit_at c.in_ok-visits.visits.items n) ≡ false = sym (c.is_on_loop.ensures ∙ ap (λ vs. is_on_loop (visit_at vs n)) c.deref-in-loop-net.ensures.value) ∙ c.if-is_on_loop.false in
    elim (dec_lt k n) [
      | yes h ↦ c.loop-net.invariant k h d
      | no h ↦
          let e : k ≡ n = omega arith in
          told_false rows n (visit_at c.in_ok-visits.visits.items n) told none (reaches_of rows c.args.gates.now (λ a b. c.in_ok-rows.ensures.edges a b) n n (subst (λ m. DependsOn c.args.gates.now m m) e d))
    ]
