-- What two rows have in common, as it is computed. `specs/Conflicts.antt` says what it means.
use Rattle.std.specs.Prelude.{◌≡◌, ℕ, ◌<◌, Bool, true, false, ◌&&◌, List, [], ◌∷◌, length, slice_index_or, Option, Some, None}
use Rattle.std.specs.List.{list_any}
use Rattle.tern_core.specs.declared.tern.Tern.{Tern}
use Rattle.tern_core.specs.declared.tern.Tern.TheVariants.{Zero, One, Unknown}
use Rattle.udp_table.specs.declared.symbol.LevelSymbol.{LevelSymbol}
use Rattle.udp_table.specs.declared.symbol.EdgeSymbol.{EdgeSymbol}
use Rattle.udp_table.specs.declared.symbol.NextState.{NextState}
use Rattle.udp_table.specs.declared.row.LevelRow.{LevelRow}
use Rattle.udp_table.specs.declared.row.EdgeRow.{EdgeRow}
use Rattle.udp_table.specs.declared.row.Row.{Row}
use Rattle.udp_table.specs.declared.row.Row.TheVariants.{Level, Edge}
use Rattle.udp_table.specs.Symbols.{covers, covers_change, differ, next_value}

abbrev pub some_value : (Tern → Bool) → Bool
some_value passes = list_any passes (Zero ∷ One ∷ Unknown ∷ [])

-- both cover some value
abbrev pub overlap : LevelSymbol → LevelSymbol → Bool
overlap s t = some_value (λ v. covers s v && covers t v)

-- both cover some change from this value
abbrev pub overlap_from : EdgeSymbol → EdgeSymbol → Tern → Bool
overlap_from e f old = some_value (λ new. covers_change e old new && covers_change f old new)

abbrev pub edges_overlap : EdgeSymbol → EdgeSymbol → Bool
edges_overlap e f = some_value (overlap_from e f)

-- in some state that both cover they give different values
abbrev pub disagree : LevelSymbol → NextState → LevelSymbol → NextState → Bool
disagree s n t m = some_value (λ v. covers s v && covers t v && differ (next_value n v) (next_value m v))

-- place by place, on lists of one length
abbrev pub all_overlap : List LevelSymbol → List LevelSymbol → Bool
all_overlap [] [] = true
all_overlap (s ∷ ss) (t ∷ ts) = overlap s t && all_overlap ss ts
all_overlap [] (t ∷ ts) = false
all_overlap (s ∷ ss) [] = false

abbrev pub level_rows_conflict : LevelRow → LevelRow → Bool
level_rows_conflict a b = all_overlap a.levels b.levels && disagree a.state a.next b.state b.next

abbrev pub edge_rows_conflict : EdgeRow → EdgeRow → Bool
edge_rows_conflict a b =
    all_overlap a.before b.before && (edges_overlap a.edge b.edge && (all_overlap a.after b.after && disagree a.state a.next b.state b.next))

abbrev pub rows_conflict : Row → Row → Bool
rows_conflict (Level a) (Level b) = level_rows_conflict a b
rows_conflict (Edge a) (Edge b) = edge_rows_conflict a b
rows_conflict (Level a) (Edge b) = false
rows_conflict (Edge a) (Level b) = false

-- the rows at two places conflict
abbrev pub AreFound : List Row → ℕ → ℕ → Type 0
AreFound rows i j = (d : Row) → rows_conflict (slice_index_or rows i d) (slice_index_or rows j d) ≡ true

-- those from a place on up to another don't conflict with the row before them
abbrev pub NoneFound : List Row → ℕ → ℕ → Type 0
NoneFound rows i high = (j : ℕ) → i < j → j < high → (d : Row) → rows_conflict (slice_index_or rows i d) (slice_index_or rows j d) ≡ false

abbrev pub FindsPartner : List Row → ℕ → Option ℕ → Type 0
FindsPartner rows i None = NoneFound rows i (length rows)
FindsPartner rows i (Some j) = (i < j) × (j < length rows) × AreFound rows i j × NoneFound rows i j
