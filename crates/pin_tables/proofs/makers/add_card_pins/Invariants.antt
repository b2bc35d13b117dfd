use Rattle.std.proofs.Common.{◌≡◌, ◌++◌, map, take}
use Rattle.pin_tables.specs.Makers.{card_pin}
use Rattle.pin_tables.proofs.makers.add_card_pins.Given as goal

abbrev pub invariant-loop-name : goal.invariant-loop-name
invariant-loop-name l = l.pins.items ≡ l.initial.pins.items ++ map (card_pin l.known) (take l.name-index l.card)
