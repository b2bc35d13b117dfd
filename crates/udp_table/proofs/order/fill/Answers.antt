use Rattle.std.proofs.Common.{◌<◌, ◌^◌, length, ap, ◌∙◌, arith}
use Rattle.std.proofs.Math.ListN.{length-set}
use Rattle.udp_table.specs.Subsets.{none, gathered}
use Rattle.udp_table.proofs.Commons.{listed-passes}
use Rattle.udp_table.proofs.Filling.{places_of, filled_start, filled_more}
use Rattle.udp_table.proofs.order.fill.Goals as goal

pub loop-subset-init : goal.loop-subset-init
loop-subset-init c = record {
  room = length-set _ _ _ ∙ c.told-places;
  ends = rw c.only.ensures (filled_start c.args.rows.now c.args.old.now c.args.new.now c.args.state c.args.changed.now c.args.places.now (omega (arith, c.told-places)));
}

pub reached-requires-clause-room : goal.reached-requires-clause-room
reached-requires-clause-room c =
    let number = places_of (length c.args.changed.now) c.requires.small in omega (arith, number.0, number.1)

pub bounds-places-subset : goal.bounds-places-subset
bounds-places-subset c =
    let number = places_of (length c.args.changed.now) c.requires.small in omega (arith, number.0, number.1)

pub loop-subset-preserved : goal.loop-subset-preserved
loop-subset-preserved c =
    let number = places_of (length c.args.changed.now) c.requires.small in
    let small : c.loop-subset.subset < 2 ^ length c.args.changed.now = omega (arith, number.0) in
    let room : c.loop-subset.subset < length c.loop-subset.places = omega (arith, number.1) in
    record {
      room = length-set _ _ _ ∙ c.loop-subset.invariant.room;
      ends = filled_more c.args.rows.now c.args.old.now c.args.new.now c.args.state c.args.changed.now (λ w. listed-passes (λ input. input < length c.args.old.now) c.args.changed.now w c.requires.inputs) c.requires.once c.loop-subset.places c.loop-subset.subset c.reached.result (omega arith) small room (c.reached.ensures ∙ ap (λ ls. gathered c.args.rows.now c.args.old.now ls c.loop-subset.places c.loop-subset.subset c.args.changed.now c.loop-subset.subset 1 none) c.levels-levels.ensures) c.loop-subset.invariant.ends;
    }
