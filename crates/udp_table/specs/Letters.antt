-- How a row is written (IEEE 1364-2005, 8.1): the bytes before its `;`, without blanks.
use Rattle.std.specs.Prelude.{◌≡◌, ◌≢◌, ℕ, ◌+◌, Bool, true, false, List, [], ◌∷◌, ◌++◌, map, length}
use Rattle.std.specs.Str.{str_to_ascii_lowercase}
use Rattle.tern_core.specs.declared.tern.Tern.{Tern}
use Rattle.tern_core.specs.declared.tern.Tern.TheVariants.{Zero, One, Unknown}
use Rattle.udp_table.specs.declared.symbol.LevelSymbol.{LevelSymbol}
use Rattle.udp_table.specs.declared.symbol.LevelSymbol.TheVariants.{Only, Binary, Any}
use Rattle.udp_table.specs.declared.symbol.EdgeSymbol.{EdgeSymbol}
use Rattle.udp_table.specs.declared.symbol.EdgeSymbol.TheVariants.{Between, Rising, Falling, PotentialRising, PotentialFalling, AnyChange}
use Rattle.udp_table.specs.declared.symbol.NextState.{NextState}
use Rattle.udp_table.specs.declared.symbol.NextState.TheVariants.{Becomes, Stays}
use Rattle.udp_table.specs.declared.row.Row.{Row}
use Rattle.udp_table.specs.declared.row.Row.TheVariants.{Level, Edge}

-- `0`, `1`, `x`
abbrev pub value_letter : Tern → ℕ
value_letter Zero = 48
value_letter One = 49
value_letter Unknown = 120

-- `0`, `1`, `x`, `b`, `?`
abbrev pub level_letter : LevelSymbol → ℕ
level_letter (Only v) = value_letter v
level_letter Binary = 98
level_letter Any = 63

-- `(vw)`, `r`, `f`, `p`, `n`, `*`
abbrev pub edge_letters : EdgeSymbol → List ℕ
edge_letters (Between v w) = 40 ∷ level_letter v ∷ level_letter w ∷ 41 ∷ []
edge_letters Rising = 114 ∷ []
edge_letters Falling = 102 ∷ []
edge_letters PotentialRising = 112 ∷ []
edge_letters PotentialFalling = 110 ∷ []
edge_letters AnyChange = 42 ∷ []

-- `0`, `1`, `x`, `-`
abbrev pub next_letter : NextState → ℕ
next_letter (Becomes v) = value_letter v
next_letter Stays = 45

-- what stands behind the inputs: `:` and the value, and in a sequential primitive `:` and the state before it
abbrev pub ending : Bool → LevelSymbol → NextState → List ℕ
ending false state next = 58 ∷ next_letter next ∷ []
ending true state next = 58 ∷ level_letter state ∷ 58 ∷ next_letter next ∷ []

abbrev pub row_letters : Bool → Row → List ℕ
row_letters sequential (Level row) = map level_letter row.levels ++ ending sequential row.state row.next
row_letters sequential (Edge row) =
    map level_letter row.before ++ (edge_letters row.edge ++ (map level_letter row.after ++ ending sequential row.state row.next))

-- What a primitive's rows are: one symbol for each input, and in a combinational one no edge, no state and no `-`.
abbrev pub Fits : Bool → ℕ → Row → Type 0
Fits false inputs (Level row) = (length row.levels ≡ inputs) × (row.state ≡ Any) × (row.next ≢ Stays)
Fits false inputs (Edge row) = ⊥
Fits true inputs (Level row) = length row.levels ≡ inputs
Fits true inputs (Edge row) = length row.before + 1 + length row.after ≡ inputs

-- the letters, all in lower case, are those of the row
abbrev pub AreLetters : Bool → ℕ → List ℕ → Row → Type 0
AreLetters sequential inputs letters row = Fits sequential inputs row × (letters ≡ row_letters sequential row)

-- the bytes are the row, whichever case their letters have
abbrev pub IsRow : Bool → ℕ → List ℕ → Row → Type 0
IsRow sequential inputs bytes row = AreLetters sequential inputs (str_to_ascii_lowercase bytes) row
