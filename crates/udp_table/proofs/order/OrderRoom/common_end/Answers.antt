use Rattle.std.proofs.Common.{◌<◌, ◌≡◌, length, take, ◌∙◌, arith}
use Rattle.std.proofs.lemmas.List.{length-take-le}
use Rattle.udp_table.proofs.Commons.{passes-listed, changed-below, changed-single}
use Rattle.udp_table.proofs.Filling.{places_of, whole_ends}
use Rattle.udp_table.proofs.order.OrderRoom.common_end.Goals as goal

pub fill-requires-clause-inputs : goal.fill-requires-clause-inputs
fill-requires-clause-inputs c =
    rw c.changed-count.ensures.inputs (passes-listed (λ w. w < length c.args.old.now) _ (changed-below c.args.old.now c.args.new.now))

pub fill-requires-clause-once : goal.fill-requires-clause-once
fill-requires-clause-once c = rw c.changed-count.ensures.inputs (changed-single c.args.old.now c.args.new.now)

pub bounds-self-count : goal.bounds-self-count
bounds-self-count c = let number = places_of c.changed-count.result c.changed-count.ensures.number in omega (arith, number.0, number.1)

pub returns : goal.returns
returns c =
    let count = c.changed-count.result in
    let long : length (take count c.changed-count.new.changed) ≡ count = length-take-le count c.changed-count.new.changed (omega arith) in
    c.common.ensures ∙ whole_ends c.args.rows.now c.args.old.now c.args.new.now c.args.state (take count c.changed-count.new.changed) count c.fill.new.places _ c.changed-count.ensures.inputs long c.changed-count.ensures.number c.fill.ensures.room c.fill.ensures.ends
