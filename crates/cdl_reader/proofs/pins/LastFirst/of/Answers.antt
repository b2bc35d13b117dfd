use Rattle.std.proofs.Common.{sym, ◌∙◌, length, refl}
use Rattle.cdl_reader.specs.Pins.{told_pin, told_direction}
use Rattle.cdl_reader.proofs.LastTold.{flipped_none, kept_more}
use Rattle.cdl_reader.proofs.pins.LastFirst.of.Goals as goal

pub loop-i-init : goal.loop-i-init
loop-i-init c = record {
  names = c.new-names.ensures ∙ sym (flipped_none c.args.told.now told_pin);
  directions = c.new-directions.ensures ∙ sym (flipped_none c.args.told.now told_direction);
}

pub loop-i-preserved : goal.loop-i-preserved
loop-i-preserved c = record {
  names =
      kept_more c.args.told.now told_pin (length c.args.told.now) c.loop-i.i c.index-told-count.result c.loop-i.names c.push.new.self c.as_bytes.result.now refl c.loop-i-test.true c.loop-i.invariant.names c.in_ok-push.ensures.ok
      c.as_bytes.ensures c.index-told-count.is;
  directions =
      kept_more c.args.told.now told_direction (length c.args.told.now) c.loop-i.i c.index-told-count.result c.loop-i.directions c.push-in-loop-i.new.self c.index-told-count.result.1 refl c.loop-i-test.true c.loop-i.invariant.directions
      c.in_ok-push-2.ensures.ok refl c.index-told-count.is;
}
