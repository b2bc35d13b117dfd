-- What tables hold that were read of a text: names, each cell once, and lines in their order.
use Rattle.std.specs.Prelude.{◌≡◌, ◌≤◌, ℕ, zero, suc, Bool, true, false, ◌&&◌, ◌||◌, ◌==◌, nat_lt, List, [], ◌∷◌, ◌++◌, length, map}
use Rattle.std.specs.List.{list_all, flat_map}
use Rattle.text_scan.specs.declared.limits.Limits.{Limits}
use Rattle.file_rules.specs.Names.{is_name_within, is_distinct}
use Rattle.table_source.specs.declared.Tables.{Tables}
use Rattle.table_source.specs.declared.Table.{Table}
use Rattle.table_source.specs.declared.Row.{Row}

-- ---- lines

-- A line stands before another: its number is less. Lines from 4,294,967,295 on all have this number.
abbrev pub is_before : ℕ → ℕ → Bool
is_before a b = nat_lt a b || (a == 4294967295 && b == 4294967295)

-- from a line on, each line stands before the next
abbrev pub are_ascending : ℕ → List ℕ → Bool
are_ascending a [] = true
are_ascending a (b ∷ bs) = is_before a b && are_ascending b bs

-- the line of xpins among the lines of lists, which stands behind that of pins; there is none where its number is 0
abbrev pub with_xline : ℕ → List ℕ → List ℕ
with_xline zero lines = lines
with_xline (suc k) [] = suc k ∷ []
with_xline (suc k) (pins ∷ lines) = pins ∷ suc k ∷ lines

abbrev pub row_line : Row → ℕ
row_line r = r.line

-- the lines of a table that are told, in the order of its text: all but the last
abbrev pub table_lines : Table → List ℕ
table_lines t = t.line ∷ with_xline t.xline t.lines ++ map row_line t.rows

-- ---- names

abbrev pub cell_name : Table → List ℕ
cell_name t = t.cell

abbrev pub are_names : Limits → List (List ℕ) → Bool
are_names limits names = list_all (is_name_within limits) names

-- no pins may be X without a line that names them
abbrev pub are_told : ℕ → List (List ℕ) → Bool
are_told (suc k) names = true
are_told zero [] = true
are_told zero (name ∷ names) = false

abbrev pub is_table : Limits → Table → Bool
is_table limits t =
    is_name_within limits t.cell && are_names limits t.pins && are_names limits t.xpins && are_told t.xline t.xpins
    && are_names limits t.state && are_names limits t.udps && are_names limits t.nodes

-- Each name is a name within the limit, no table is of the cell of another, and the lines of the tables, from 1 on, stand
-- in their order. A row may have more or fewer values than its table has names.
pub record IsTables (limits : Limits) (tables : Tables) : Type 0 where
  pub few : length tables.tables ≤ limits.cells
  pub named : list_all (is_table limits) tables.tables ≡ true
  pub distinct : is_distinct (map cell_name tables.tables) ≡ true
  pub lines : are_ascending 0 (flat_map table_lines tables.tables) ≡ true
