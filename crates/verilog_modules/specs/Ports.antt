-- The ports of a module, in the order of its port list.
use Rattle.std.specs.Prelude.{ℕ, Bool, true, false, if◌then◌else◌, List, [], ◌∷◌, map, Option, Some, None, slice_get, slice_set}
use Rattle.text_scan.specs.declared.pins.Direction.{Direction}
use Rattle.text_scan.specs.declared.pins.Direction.TheVariants as directions
use Rattle.verilog_source.specs.declared.module.Port.{Port}
use Rattle.name_index.specs.Places.{place_of}

abbrev pub name_of : Port → List ℕ
name_of p = p.name

abbrev pub names_of : List Port → List (List ℕ)
names_of ports = map name_of ports

abbrev pub is_absent : Direction → Bool
is_absent directions.Absent = true
is_absent _ = false

abbrev pub direct : Direction → Port → Port
direct d p = record p { direction = d }

-- the port at this place gets the direction, if it has none
abbrev pub direct_port : List Port → ℕ → Direction → Option Port → Option (List Port)
direct_port ports at d None = None
direct_port ports at d (Some p) = if is_absent p.direction then Some (slice_set ports at (direct d p)) else None

abbrev pub direct_at : List Port → Direction → Option ℕ → Option (List Port)
direct_at ports d None = None
direct_at ports d (Some at) = direct_port ports at d (slice_get ports at)

-- the port of this name gets the direction; none does, where no port has the name or it has a direction
unfoldable pub directed : List Port → List ℕ → Direction → Option (List Port)
directed ports name d = direct_at ports d (place_of (names_of ports) name)

-- the name of the first port without a direction
abbrev pub undirected : List Port → Option (List ℕ)
undirected [] = None
undirected (p ∷ ps) = if is_absent p.direction then Some p.name else undirected ps
