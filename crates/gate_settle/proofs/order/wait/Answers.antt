use Rattle.std.proofs.Common.{◌≡◌, List, [], ◌∷◌, ◌++◌, map, get_or, slice_set, sym, ◌∙◌, ap}
use Rattle.std.proofs.lemmas.List.{map-set, get_or-map}
use Rattle.gate_settle.specs.declared.order.Waiter.{Waiter}
use Rattle.gate_settle.proofs.order.wait.Goals as goal

pub returns : goal.returns
returns c =
    let rows : List (List Waiter) = map (λ v. v.items) c.args.rows.now in
    let row : get_or rows c.args.net [] ≡ (get_or c.args.rows.now c.args.net c.index-rows-net.result).items =
    get_or-map (λ v. v.items) c.args.rows.now c.args.net c.index-rows-net.result [] c.requires in
    map-set (λ v. v.items) c.args.rows.now c.args.net c.push.new.self
    ∙ ap (λ row. slice_set rows c.args.net row) (c.in_ok-push.ensures.items ∙ ap (λ r. r ++ c.args.waiter ∷ []) (sym row))
