use Rattle.std.proofs.Common.{map, slice_set, ◌∙◌, ap}
use Rattle.std.proofs.lemmas.List.{map-set}
use Rattle.gate_settle.proofs.order.wake_row.Goals as goal

pub returns-in_ok-append-clause-rows : goal.returns-in_ok-append-clause-rows
returns-in_ok-append-clause-rows c =
    map-set (λ v. v.items) c.args.rows.now c.args.net c.append.new.other
    ∙ ap (slice_set (map (λ v. v.items) c.args.rows.now) c.args.net) c.in_ok-append.ensures.other_items
