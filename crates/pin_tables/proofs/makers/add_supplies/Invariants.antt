use Rattle.std.proofs.Common.{◌≡◌, ◌++◌, take}
use Rattle.std.specs.List.{flat_map}
use Rattle.pin_tables.specs.Makers.{indexed_supply}
use Rattle.pin_tables.proofs.makers.add_supplies.Given as goal

abbrev pub invariant-loop-name : goal.invariant-loop-name
invariant-loop-name l = l.pins.items ≡ l.initial.pins.items ++ flat_map (indexed_supply l.names) (take l.name-index l.supplies)
