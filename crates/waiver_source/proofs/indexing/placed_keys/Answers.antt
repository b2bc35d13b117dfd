use Rattle.std.proofs.Common.{length, refl}
use Rattle.std.proofs.lemmas.Option.{slice_get_read}
use Rattle.waiver_source.specs.Index.{IsKeyOf}
use Rattle.waiver_source.proofs.Listed.{all_more, listed_more}
use Rattle.waiver_source.proofs.indexing.placed_keys.Goals as goal

pub loop-place-preserved : goal.loop-place-preserved
loop-place-preserved c =
    let waivers = c.args.waivers.now in
    let is = c.in_ok-push.ensures.items in
    let one : IsKeyOf waivers (record { key = c.in_ok-key.key; place = c.loop-place.place }) = record {
      waiver = c.index-waivers-place.result;
      at_place = slice_get_read waivers (length waivers) c.loop-place.place c.index-waivers-place.result refl c.loop-place-test.true c.index-waivers-place.is;
      own = c.in_ok-key.ensures;
    } in
    record {
      own = all_more waivers c.loop-place.keys.items c.push.new.self.items _ is c.loop-place.invariant.own one;
      listed = listed_more c.loop-place.keys.items c.push.new.self.items _ c.loop-place.place is refl c.loop-place.invariant.listed;
    }
