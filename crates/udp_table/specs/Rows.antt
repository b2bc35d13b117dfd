-- When a row of a table matches, and what it then gives (IEEE 1364-2005, 8.2 to 8.4 and 8.7).
use Rattle.std.specs.Prelude.{ℕ, ◌+◌, ◌==◌, Bool, ◌&&◌, List, length, take, drop, slice_index_or}
use Rattle.tern_core.specs.declared.tern.Tern.{Tern}
use Rattle.tern_core.specs.declared.tern.Tern.TheVariants.{Unknown}
use Rattle.udp_table.specs.declared.row.LevelRow.{LevelRow}
use Rattle.udp_table.specs.declared.row.EdgeRow.{EdgeRow}
use Rattle.udp_table.specs.declared.row.Row.{Row}
use Rattle.udp_table.specs.declared.row.Row.TheVariants.{Level, Edge}
use Rattle.udp_table.specs.Symbols.{covers, covers_all, covers_change, next_value}

-- What a sequential primitive is asked: one input has changed from an old value to the one that it has
-- among the levels of all inputs, in a state.
pub record Case : Type 0 where
  pub input : ℕ
  pub old : Tern
  pub levels : List Tern
  pub state : Tern

abbrev pub case_of : ℕ → Tern → List Tern → Tern → Case
case_of input old levels state = record { input = input; old = old; levels = levels; state = state }

-- the value that the changed input has now
abbrev pub new_of : Case → Tern
new_of c = slice_index_or c.levels c.input Unknown

-- each symbol covers its level, and the state's symbol the state
abbrev pub level_row_matches : LevelRow → List Tern → Tern → Bool
level_row_matches row levels state = covers_all row.levels levels && covers row.state state

-- the edge stands at the changed input and covers the change, and the other symbols cover their levels and the state
abbrev pub edge_row_matches : EdgeRow → Case → Bool
edge_row_matches row c =
    (length row.before == c.input) && (covers_change row.edge c.old (new_of c) && (covers_all row.before (take c.input c.levels) && (covers_all row.after (drop (c.input + 1) c.levels) && covers row.state c.state)))

abbrev pub matches : Row → Case → Bool
matches (Level row) c = level_row_matches row c.levels c.state
matches (Edge row) c = edge_row_matches row c

-- what a row that matches gives
abbrev pub value_in : Row → Tern → Tern
value_in (Level row) state = next_value row.next state
value_in (Edge row) state = next_value row.next state
