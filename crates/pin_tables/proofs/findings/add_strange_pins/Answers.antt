use Rattle.std.proofs.Common.{◌∷◌, [], ◌+◌, take, rules}
use Rattle.pin_tables.proofs.Lists.{take_at, strangers_join}
use Rattle.pin_tables.proofs.findings.add_strange_pins.Goals as goal

pub loop-pin-preserved : goal.loop-pin-preserved
loop-pin-preserved c =
    let pins = c.args.pins.now in
    let i = c.loop-pin.pin-index in
    let p = c.pin-item.result in
    strangers_join c.args.liberty.now c.args.others.now c.loop-pin.others c.add_stranger.new.others (take i pins) (p ∷ []) (take (i + 1) pins)
    (take_at pins i p (search rules) c.pin-item.is) c.loop-pin.invariant c.in_ok-add_stranger.ensures
