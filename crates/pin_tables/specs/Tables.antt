-- Tables of pins.
use Rattle.std.specs.Prelude.{ℕ, Bool, List, find, Option}
use Rattle.std.specs.Option.{option_map}
use Rattle.std.specs.Str.{bytes_eq}
use Rattle.pin_tables.specs.declared.table.Pin.{Pin}
use Rattle.pin_tables.specs.declared.table.Role.{Role}

abbrev pub has_name : List ℕ → Pin → Bool
has_name name p = bytes_eq name p.name

abbrev pub name_of : Pin → List ℕ
name_of p = p.name

abbrev pub role_of : Pin → Role
role_of p = record { direction = p.direction; kind = p.kind }

-- what a table says of a name: that of the first pin that has it
abbrev pub said_of : List Pin → List ℕ → Option Role
said_of pins name = option_map role_of (find (has_name name) pins)
