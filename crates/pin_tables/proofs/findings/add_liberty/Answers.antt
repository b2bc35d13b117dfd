use Rattle.std.proofs.Common.{◌++◌, ◌∷◌, [], take, sym, ap, ◌∙◌, rules}
use Rattle.std.proofs.lemmas.List.{map-append}
use Rattle.pin_tables.specs.Lookups.{unless_seen}
use Rattle.pin_tables.specs.Tables.{name_of}
use Rattle.pin_tables.proofs.Lists.{take_at, liberty_step}
use Rattle.pin_tables.proofs.findings.add_liberty.Goals as goal

pub loop-pin-preserved : goal.loop-pin-preserved
loop-pin-preserved c =
    let pins = c.args.pins.now in
    let i = c.loop-pin.pin-index in
    let p = c.pin-item.result in
    let x = c.args.lookups.now in
    let start = c.args.found.now.items in
    let more = take_at pins i p (search rules) c.pin-item.is in
    let seen = c.loop-pin.invariant.0 in
    rw more (
      c.in_ok-add_pin.ensures.seen ∙ ap (λ ns. ns ++ p.name ∷ []) seen ∙ sym (map-append name_of (take i pins) (p ∷ [])),
      liberty_step x (take i pins) p start c.loop-pin.found.items c.add_pin.new.found.items c.loop-pin.invariant.1
          (c.in_ok-add_pin.ensures.found ∙ ap (λ ns. c.loop-pin.found.items ++ unless_seen ns x p) seen),
    )
