-- The symbols of a table (IEEE 1364-2005, 8.1.6): which values, and which changes of a value, they cover.
use Rattle.std.specs.Prelude.{Bool, true, false, ◌&&◌, List, [], ◌∷◌}
use Rattle.tern_core.specs.declared.tern.Tern.{Tern}
use Rattle.tern_core.specs.declared.tern.Tern.TheVariants.{Zero, One, Unknown}
use Rattle.udp_table.specs.declared.symbol.LevelSymbol.{LevelSymbol}
use Rattle.udp_table.specs.declared.symbol.LevelSymbol.TheVariants.{Only, Binary, Any}
use Rattle.udp_table.specs.declared.symbol.EdgeSymbol.{EdgeSymbol}
use Rattle.udp_table.specs.declared.symbol.EdgeSymbol.TheVariants.{Between, Rising, Falling, PotentialRising, PotentialFalling, AnyChange}
use Rattle.udp_table.specs.declared.symbol.NextState.{NextState}
use Rattle.udp_table.specs.declared.symbol.NextState.TheVariants.{Becomes, Stays}

abbrev pub is_same : Tern → Tern → Bool
is_same Zero Zero = true
is_same One One = true
is_same Unknown Unknown = true
is_same v w = false

-- `0`, `1` and `x` cover themselves, `b` covers 0 and 1, `?` all three
abbrev pub covers : LevelSymbol → Tern → Bool
covers (Only v) w = is_same v w
covers Binary Zero = true
covers Binary One = true
covers Binary Unknown = false
covers Any w = true

abbrev pub differ : Tern → Tern → Bool
differ Zero Zero = false
differ One One = false
differ Unknown Unknown = false
differ v w = true

-- A change is from a value to another one. `(vw)` covers those from what v covers to what w covers;
-- `r` is (01), `f` is (10), `p` is (01), (0x) and (x1), `n` is (10), (1x) and (x0), `*` is any change.
abbrev pub covers_change : EdgeSymbol → Tern → Tern → Bool
covers_change (Between v w) old new = differ old new && (covers v old && covers w new)
covers_change Rising Zero One = true
covers_change Rising old new = false
covers_change Falling One Zero = true
covers_change Falling old new = false
covers_change PotentialRising Zero One = true
covers_change PotentialRising Zero Unknown = true
covers_change PotentialRising Unknown One = true
covers_change PotentialRising old new = false
covers_change PotentialFalling One Zero = true
covers_change PotentialFalling One Unknown = true
covers_change PotentialFalling Unknown Zero = true
covers_change PotentialFalling old new = false
covers_change AnyChange old new = differ old new

-- the value that a row gives in a state: `-` is the state itself
abbrev pub next_value : NextState → Tern → Tern
next_value (Becomes v) state = v
next_value Stays state = state

-- place by place, on lists of one length
abbrev pub covers_all : List LevelSymbol → List Tern → Bool
covers_all [] [] = true
covers_all (s ∷ symbols) (v ∷ values) = covers s v && covers_all symbols values
covers_all [] (v ∷ values) = false
covers_all (s ∷ symbols) [] = false
