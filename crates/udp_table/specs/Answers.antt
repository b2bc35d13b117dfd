-- What a primitive answers: a level row that matches decides (IEEE 1364-2005, 8.8), else an edge
-- row that matches, else the answer is x.
use Rattle.std.specs.Prelude.{List, [], ◌∷◌, Option, Some, None, unwrap_or, if◌then◌else◌}
use Rattle.tern_core.specs.declared.tern.Tern.{Tern}
use Rattle.tern_core.specs.declared.tern.Tern.TheVariants.{Unknown}
use Rattle.udp_table.specs.declared.row.Row.{Row}
use Rattle.udp_table.specs.declared.row.Row.TheVariants.{Level, Edge}
use Rattle.udp_table.specs.Symbols.{next_value}
use Rattle.udp_table.specs.Rows.{Case, level_row_matches, edge_row_matches}

-- what a level row that matches gives
abbrev pub level_answer : List Row → List Tern → Tern → Option Tern
level_answer [] levels state = None
level_answer (Level row ∷ rows) levels state =
    if level_row_matches row levels state then Some (next_value row.next state) else level_answer rows levels state
level_answer (Edge row ∷ rows) levels state = level_answer rows levels state

-- what an edge row that matches gives
abbrev pub edge_answer : List Row → Case → Option Tern
edge_answer [] c = None
edge_answer (Level row ∷ rows) c = edge_answer rows c
edge_answer (Edge row ∷ rows) c = if edge_row_matches row c then Some (next_value row.next c.state) else edge_answer rows c

-- of a combinational primitive, whose rows look at no state
abbrev pub level_of : List Row → List Tern → Tern
level_of rows levels = unwrap_or (level_answer rows levels Unknown) Unknown

-- of a sequential one
abbrev pub answer_of : List Row → Case → Tern
answer_of rows c = unwrap_or (level_answer rows c.levels c.state) (unwrap_or (edge_answer rows c) Unknown)
