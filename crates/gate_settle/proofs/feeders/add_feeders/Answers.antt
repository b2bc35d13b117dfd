use Rattle.std.proofs.Common.{◌≡◌, ℕ, List, [], map, length, get_or, sym, ◌∙◌, ap, arith}
use Rattle.std.specs.Prelude.{◌||◌}
use Rattle.std.proofs.lemmas.List.{map-set, get_or-map, length-map}
use Rattle.gate_settle.specs.Gates.{is_among}
use Rattle.gate_settle.specs.Order.{is_input}
use Rattle.gate_settle.specs.Search.{is_edge}
use Rattle.gate_settle.proofs.Feeding.{row_grown}
use Rattle.gate_settle.proofs.feeders.add_feeders.Goals as goal

pub returns-in_ok-add_inputs : goal.returns-in_ok-add_inputs
returns-in_ok-add_inputs c a b lt =
    let rows : List (List ℕ) = map (λ v. v.items) c.args.rows.now in
    let long : length rows ≡ length c.args.rows.now = length-map c.args.rows.now (λ v. v.items) in
    let row : get_or rows c.args.output [] ≡ (get_or c.args.rows.now c.args.output c.index-rows-output.result).items =
    get_or-map (λ v. v.items) c.args.rows.now c.args.output c.index-rows-output.result [] c.if-output-rows.true in
    ap (λ rs. is_edge rs a b) (map-set (λ v. v.items) c.args.rows.now c.args.output c.add_inputs.new.row)
    ∙ row_grown rows c.args.output c.add_inputs.new.row.items c.args.inputs.now (omega (arith, long, c.if-output-rows.true)) (λ k. c.in_ok-add_inputs.ensures k ∙ ap (λ r. is_among r k || is_input c.args.inputs.now k) (sym row)) a b
