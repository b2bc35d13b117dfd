-- How a lookup holds its names.
use Rattle.std.specs.Prelude.{◌≡◌, ℕ, List, Option, Some, None, map}
use Rattle.pin_tables.specs.declared.table.Pin.{Pin}
use Rattle.pin_tables.specs.Tables.{name_of}

-- the names that a lookup keeps, where it keeps any, are those of its pins in their order
abbrev pub HasNames : List Pin → Option (List (List ℕ)) → Type 0
HasNames pins None = Unit {0}
HasNames pins (Some names) = names ≡ map name_of pins
