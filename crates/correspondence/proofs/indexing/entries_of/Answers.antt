use Rattle.std.proofs.Common.{length, refl}
use Rattle.std.proofs.lemmas.Option.{slice_get_read}
use Rattle.std.specs.Prelude.{slice_get, Some}
use Rattle.std.proofs.Common.{◌≡◌, sym, subst}
use Rattle.correspondence.specs.Index.{IsEntryOf}
use Rattle.correspondence.proofs.Listed.{all_more, listed_more}
use Rattle.correspondence.proofs.indexing.entries_of.Goals as goal

pub loop-i-preserved : goal.loop-i-preserved
loop-i-preserved c =
    let rows = c.args.rows.now in
    let is = c.in_ok-push.ensures.items in
    let of = c.in_ok-entry.ensures in
    let at = slice_get_read rows (length rows) c.loop-i.i c.index-rows-i.result refl c.loop-i-test.true c.index-rows-i.is in
    let one : IsEntryOf rows c.in_ok-entry.entry = record {
      row = c.index-rows-i.result;
      at_place = subst (λ k. slice_get rows k ≡ Some c.index-rows-i.result) (sym of.at_place) at;
      own = of.own;
    } in
    record {
      own = all_more rows c.loop-i.entries.items c.push.new.self.items _ is c.loop-i.invariant.own one;
      listed = listed_more c.loop-i.entries.items c.push.new.self.items _ c.loop-i.i is of.at_place c.loop-i.invariant.listed;
    }
