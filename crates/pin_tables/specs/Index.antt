-- Pins by name.
use Rattle.std.specs.Prelude.{◌≡◌, ℕ, Bool, cond, List, Option, Some, None, is_none}
use Rattle.std.specs.Option.{option_or}
use Rattle.std.specs.Str.{bytes_eq}
use Rattle.std.specs.Ordering.{nat_cmp}
use Rattle.std.specs.Cmp.Lexicographic.{slice_cmp}
use Rattle.std.specs.BTreeMap.{get_by}
use Rattle.pin_tables.specs.declared.table.Pin.{Pin}
use Rattle.pin_tables.specs.declared.table.Role.{Role}
use Rattle.pin_tables.specs.declared.index.PinIndex.{PinIndex}
use Rattle.pin_tables.specs.Tables.{role_of, said_of}

-- what the index has at a name
abbrev pub found : PinIndex → List ℕ → Option Role
found index name = get_by (λ k. slice_cmp nat_cmp name k.items) index.roles

-- the index after a pin was added, whose name keeps what it had, and whether it had nothing
abbrev pub Adds : PinIndex → PinIndex → Pin → Bool → Type 0
Adds old new pin fresh =
    (fresh ≡ is_none (found old pin.name))
    × ((q : List ℕ) → found new q ≡ option_or (found old q) (cond (bytes_eq q pin.name) (Some (role_of pin)) None))

-- the index says of each name what the pins say
abbrev pub IsIndexOf : List Pin → PinIndex → Type 0
IsIndexOf pins index = (q : List ℕ) → found index q ≡ said_of pins q
