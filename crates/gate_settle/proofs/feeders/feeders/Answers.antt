use Rattle.std.proofs.Common.{◌≡◌, ◌≤◌, ℕ, List, [], map, length, drop, sym, ◌∙◌, ap, arith}
use Rattle.std.specs.Prelude.{◌||◌}
use Rattle.std.proofs.lemmas.Grind.{common_steps}
use Rattle.std.proofs.lemmas.List.{length-map}
use native.Mathlib.Decide.{dec_lt}
use Rattle.gate_settle.specs.Order.{is_fed_by}
use Rattle.gate_settle.specs.Search.{is_edge}
use Rattle.gate_settle.proofs.Search.{or_false}
use Rattle.gate_settle.proofs.Feeding.{nothing_past}
use Rattle.gate_settle.proofs.feeders.feeders.Goals as goal

pub returns-clause-edges : goal.returns-clause-edges
returns-clause-edges c a b =
    let rows : List (List ℕ) = map (λ v. v.items) c.loop-gate.rows.items in
    let long : length rows ≡ c.args.nets = length-map c.loop-gate.rows.items (λ v. v.items) ∙ c.loop-gate.invariant.count in
    let rest : drop c.loop-gate.gate-index c.args.gates.now ≡ [] = grind (arith, common_steps) in
    elim (dec_lt a c.args.nets) [
      | yes lt ↦ sym (ap (λ gs. is_edge rows a b || is_fed_by gs a b) rest ∙ or_false (is_edge rows a b)) ∙ c.loop-gate.invariant.edges a b lt
      | no le ↦ let ge : c.args.nets ≤ a = omega arith in nothing_past rows c.args.gates.now c.args.nets a b long c.requires ge
    ]
