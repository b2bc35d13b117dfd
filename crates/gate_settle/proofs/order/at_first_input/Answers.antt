use Rattle.std.proofs.Common.{◌≡◌, ◌+◌, [], ◌∷◌, ◌++◌, sym, ◌∙◌, ap, subst, refl, arith, rules}
use Rattle.std.specs.Prelude.{sum_by}
use Rattle.std.proofs.lemmas.List.Sums.{sum_by_push}
use Rattle.gate_settle.specs.declared.order.Waiter.{Waiter}
use Rattle.gate_settle.specs.Waiting.{gates_in, AllScanned}
use Rattle.gate_settle.proofs.Waiting.{scanned_append}
use Rattle.gate_settle.proofs.order.at_first_input.Goals as goal

pub loop-gate-preserved : goal.loop-gate-preserved
loop-gate-preserved c =
    let w : Waiter = record { gate = c.in-Some.gate; input = 0 } in
    let pushed : c.push.new.self.items ≡ c.loop-gate.fresh.items ++ w ∷ [] = c.in_ok-push.ensures.items in
    let popped : c.loop-gate.gates.items ≡ c.pop.new.self.items ++ c.in-Some.gate ∷ [] = search rules in
    record {
      gates = λ f.
          let h = c.loop-gate.invariant.gates f in
          let a : gates_in f c.push.new.self.items ≡ gates_in f c.loop-gate.fresh.items + f c.in-Some.gate = ap (gates_in f) pushed ∙ sum_by_push (λ (x : Waiter). f x.gate) c.loop-gate.fresh.items w in
          let b : sum_by f c.loop-gate.gates.items ≡ sum_by f c.pop.new.self.items + f c.in-Some.gate = ap (sum_by f) popped ∙ sum_by_push f c.pop.new.self.items c.in-Some.gate in
          omega (arith, h, a, b);
      scanned = λ known. subst (AllScanned known) (sym pushed) (scanned_append known c.loop-gate.fresh.items (w ∷ []) (c.loop-gate.invariant.scanned known) (refl, tt));
    }
