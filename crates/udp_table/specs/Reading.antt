-- How the letters of a row are read from the left. `specs/Letters.antt` says what they mean.
use Rattle.std.specs.Prelude.{◌≡◌, ℕ, ◌+◌, ◌==◌, Bool, true, false, ◌&&◌, List, [], ◌∷◌, length, Option, Some, None, option_and_then, if◌then◌else◌}
use Rattle.std.specs.Borrow.{Bor}
use Rattle.tern_core.specs.declared.tern.Tern.{Tern}
use Rattle.tern_core.specs.declared.tern.Tern.TheVariants.{Zero, One, Unknown}
use Rattle.udp_table.specs.declared.symbol.LevelSymbol.{LevelSymbol}
use Rattle.udp_table.specs.declared.symbol.LevelSymbol.TheVariants.{Only, Binary, Any}
use Rattle.udp_table.specs.declared.symbol.EdgeSymbol.{EdgeSymbol}
use Rattle.udp_table.specs.declared.symbol.EdgeSymbol.TheVariants.{Between, Rising, Falling, PotentialRising, PotentialFalling, AnyChange}
use Rattle.udp_table.specs.declared.symbol.NextState.{NextState}
use Rattle.udp_table.specs.declared.symbol.NextState.TheVariants.{Becomes, Stays}
use Rattle.udp_table.specs.declared.row.Row.{Row}
use Rattle.udp_table.specs.declared.row.Row.TheVariants.{Level, Edge}

infixl 10 ◌>>=◌
abbrev pub ◌>>=◌ : {A B : Type 0} → Option A → (A → Option B) → Option B
o >>= f = option_and_then f o

abbrev pub value_at : ℕ → Option Tern
value_at letter = if letter == 48 then Some Zero else (if letter == 49 then Some One else (if letter == 120 then Some Unknown else None))

abbrev pub level_at : ℕ → Option LevelSymbol
level_at letter =
    if letter == 48 then Some (Only Zero) else (if letter == 49 then Some (Only One) else (if letter == 120 then Some (Only Unknown) else (if letter == 98 then Some Binary else (if letter == 63 then Some Any else None))))

abbrev pub next_at : ℕ → Option NextState
next_at letter =
    if letter == 48 then Some (Becomes Zero) else (if letter == 49 then Some (Becomes One) else (if letter == 120 then Some (Becomes Unknown) else (if letter == 45 then Some Stays else None)))

abbrev pub edge_at : ℕ → Option EdgeSymbol
edge_at letter =
    if letter == 114 then Some Rising else (if letter == 102 then Some Falling else (if letter == 112 then Some PotentialRising else (if letter == 110 then Some PotentialFalling else (if letter == 42 then Some AnyChange else None))))

-- the levels at the front, and what stands behind them
abbrev pub with_level : Option LevelSymbol → List LevelSymbol → List LevelSymbol
with_level None levels = []
with_level (Some s) levels = s ∷ levels

abbrev pub past_level : Option LevelSymbol → List ℕ → List ℕ → List ℕ
past_level None here behind = here
past_level (Some s) here behind = behind

abbrev pub levels_in : List ℕ → List LevelSymbol
levels_in [] = []
levels_in (letter ∷ letters) = with_level (level_at letter) (levels_in letters)

abbrev pub after_levels : List ℕ → List ℕ
after_levels [] = []
after_levels (letter ∷ letters) = past_level (level_at letter) (letter ∷ letters) (after_levels letters)

-- what the code finds, a value and the rest of a slice, is what is found on the list
abbrev pub Finds : {A : Type 0} → Option (A × Bor (List ℕ)) → Option (A × List ℕ) → Type 0
Finds None found = found ≡ None
Finds (Some r) found = found ≡ Some (r.0, r.1.now)

-- the two levels of an edge behind its `(`
abbrev pub between_in : List ℕ → Option (EdgeSymbol × List ℕ)
between_in (from ∷ to ∷ close ∷ letters) =
    if close == 41 then (level_at from >>= λ v. level_at to >>= λ w. Some (Between v w, letters)) else None
between_in letters = None

-- an edge, and what stands behind it
abbrev pub edge_in : List ℕ → Option (EdgeSymbol × List ℕ)
edge_in [] = None
edge_in (letter ∷ letters) =
    if letter == 40 then between_in letters else (edge_at letter >>= λ edge. Some (edge, letters))

-- the state's symbol and the value, up to the end
abbrev pub ending_in : Bool → List ℕ → Option (LevelSymbol × NextState)
ending_in false (colon ∷ value ∷ []) = if colon == 58 then (value_at value >>= λ v. Some (Any, Becomes v)) else None
ending_in true (colon ∷ state ∷ second ∷ next ∷ []) =
    if (colon == 58) && (second == 58) then (level_at state >>= λ s. next_at next >>= λ n. Some (s, n)) else None
ending_in sequential letters = None

abbrev pub level_row_of : ℕ → List LevelSymbol → LevelSymbol × NextState → Option Row
level_row_of inputs levels end =
    if length levels == inputs then Some (Level (record { levels = levels; state = end.0; next = end.1 })) else None

abbrev pub edge_row_of : ℕ → List LevelSymbol → EdgeSymbol → List LevelSymbol → LevelSymbol × NextState → Option Row
edge_row_of inputs before edge after end =
    if length before + 1 + length after == inputs then Some (Edge (record { before = before; edge = edge; after = after; state = end.0; next = end.1 })) else None

-- the row of an edge that stands behind these levels
abbrev pub edge_row_in : ℕ → List LevelSymbol → List ℕ → Option Row
edge_row_in inputs before letters =
    edge_in letters >>= λ found. ending_in true (after_levels found.1) >>= λ end. edge_row_of inputs before found.0 (levels_in found.1) end

abbrev pub behind_levels : Bool → ℕ → List LevelSymbol → List ℕ → Option (LevelSymbol × NextState) → Option Row
behind_levels sequential inputs levels letters (Some end) = level_row_of inputs levels end
behind_levels false inputs levels letters None = None
behind_levels true inputs levels letters None = edge_row_in inputs levels letters

abbrev pub row_in : Bool → ℕ → List ℕ → Option Row
row_in sequential inputs letters =
    behind_levels sequential inputs (levels_in letters) (after_levels letters) (ending_in sequential (after_levels letters))
