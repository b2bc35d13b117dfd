use Rattle.std.proofs.Common.{◌∷◌, [], map, take, sym, subst, rules}
use Rattle.pin_tables.specs.Index.{IsIndexOf}
use Rattle.pin_tables.specs.Makers.{as_pin}
use Rattle.pin_tables.proofs.Indexes.{indexes_more, joins_one}
use Rattle.pin_tables.proofs.Tables.{mapped_at}
use Rattle.pin_tables.proofs.makers.names_of.Goals as goal

pub loop-pin-preserved : goal.loop-pin-preserved
loop-pin-preserved c =
    let own = c.args.own.now in
    let i = c.loop-pin.pin-index in
    let p = c.pin-item.result in
    let new = c.insert.new.self in
    subst (λ ps. IsIndexOf ps new) (sym (mapped_at as_pin own i p (search rules) c.pin-item.is))
    (indexes_more (map as_pin (take i own)) (as_pin p ∷ []) c.loop-pin.names new c.loop-pin.invariant (joins_one c.loop-pin.names new (as_pin p) c.in_ok-insert.field-0 c.in_ok-insert.ensures))
